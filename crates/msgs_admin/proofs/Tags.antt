-- Tags of which one is known: how a loop reads them, and how they are written.
use Rattle.std.proofs.Common.{◌≡◌, ℕ, ℤ, suc, ◌+◌, ◌-◌, ◌^◌, ◌≤◌, ◌<◌, List, [], ◌∷◌, ◌++◌, length, Option, Some, None, refl, sym, ap, ◌∙◌}
use Rattle.std.proofs.Common.{append_assoc, arith, length-append}
use Rattle.std.specs.Prelude.{Result, Ok, Err, OnOk}
use Rattle.std.specs.Int.{w64}
use Rattle.std.specs.Option.{option_or}
use Rattle.std.proofs.lemmas.List.{append-nil}
use Rattle.flex_fields.specs.declared.fault.WireFault.{WireFault}
use Rattle.flex_fields.specs.Cursors.{Fails}
use Rattle.flex_fields.specs.Formats.{Format, Shape, Writes, ◌▹◌}
use Rattle.flex_fields.specs.Reading.{At, ◌>>=◌}
use Rattle.flex_fields.specs.Writing.{groups_of, int_bytes, one_tag_bytes, uvarint_bytes}
use Rattle.flex_fields.proofs.Repeated.{fails_along}
use Rattle.flex_fields.proofs.Written.{uvarint_spells}
use Rattle.msgs_admin.specs.declared.held_records.HeldRecords.{HeldRecords}
use Rattle.msgs_admin.specs.HeldRecords.{HELD_TAG, held_records, held_tag, structure_with_held}
use Rattle.msgs_admin.specs.KnownTag.{known_tag_at, known_from_at}

module _ {A : Type 0} (known : ℕ) (r : At → Result (A × At) WireFault) where
  pub goes_on : (said one : Option A) (count i : ℕ) (at after : At) (total : Result (Option A × At) WireFault) → i < count
      → known_tag_at known r at ≡ Ok (one, after) → known_from_at known r said (count - i) at ≡ total
      → known_from_at known r (option_or one said) (count - (i + 1)) after ≡ total
  unfolding known_from_at
  goes_on said one count i at after total lt h so_far =
      let k : count - i ≡ suc (count - (i + 1)) = omega arith in
      let step : known_from_at known r said (count - i) at ≡ known_from_at known r (option_or one said) (count - (i + 1)) after = rw (k, h) refl in
      sym step ∙ so_far

  pub ends : (e : WireFault) (said : Option A) (count i : ℕ) (at : At) (total : Result (Option A × At) WireFault) → i < count
      → Fails e (known_tag_at known r at) → known_from_at known r said (count - i) at ≡ total → Fails e total
  unfolding known_from_at
  ends e said count i at total lt fails so_far =
      let k : count - i ≡ suc (count - (i + 1)) = omega arith in
      fails_along e (known_tag_at known r at) total
      (λ f h. let step : known_from_at known r said (count - i) at ≡ Err f = rw (k, h) refl in sym so_far ∙ step) fails

  pub is_done : (said : Option A) (count i : ℕ) (at : At) (total : Result (Option A × At) WireFault) → count ≤ i
      → known_from_at known r said (count - i) at ≡ total → total ≡ Ok (said, at)
  unfolding known_from_at
  is_done said count i at total le so_far =
      let k : count - i ≡ 0 = omega arith in
      let step : known_from_at known r said (count - i) at ≡ Ok (said, at) = rw k refl in
      sym so_far ∙ step

-- ---- what is held

number_len : (z : ℤ) → length (int_bytes w64 z) ≡ 8
number_len z = refl

no_tags_len : length (uvarint_bytes 0) ≡ 1
unfolding groups_of
no_tags_len = refl

held_len : (h : HeldRecords) → length (held_records.bytes h) ≡ 25
unfolding held_records
held_len h =
    let a = int_bytes w64 h.held in
    let b = int_bytes w64 h.first_lock_end_ms in
    let d = int_bytes w64 h.archived in
    omega (
      arith,
      length-append (a ++ (b ++ d)) (uvarint_bytes 0),
      length-append a (b ++ d),
      length-append b d,
      no_tags_len,
      number_len h.held,
      number_len h.first_lock_end_ms,
      number_len h.archived,
    )

pub held_writes : {X E : Type 0} (a b c d e : List ℕ) (h : HeldRecords) (result : Result X E) → b ≡ a ++ uvarint_bytes 1
    → c ≡ b ++ uvarint_bytes HELD_TAG → d ≡ c ++ uvarint_bytes 25 → OnOk result (Writes held_records d e h)
    → OnOk result (Writes held_tag a e (Some h))
held_writes a b c d e h (Err f) one tag size w = tt
held_writes a b c d e h (Ok x) one tag size w =
    let inner = held_records.bytes h in
    let len : length inner ≡ 25 = held_len h in
    let u = uvarint_bytes in
    let told = u HELD_TAG ++ (u (length inner) ++ inner) in
    let small : length inner < 2 ^ 32 = omega (arith, len) in
    let sized : d ≡ c ++ u (length inner) = size ∙ ap (λ (n : ℕ). c ++ u n) (sym len) in
    record {
      appended = w.appended ∙ ap (λ (l : List ℕ). l ++ inner) sized
          ∙ ap (λ (l : List ℕ). (l ++ u (length inner)) ++ inner) tag
          ∙ ap (λ (l : List ℕ). ((l ++ u HELD_TAG) ++ u (length inner)) ++ inner) one
          ∙ append_assoc ((a ++ u 1) ++ u HELD_TAG) (u (length inner)) inner
          ∙ append_assoc (a ++ u 1) (u HELD_TAG) (u (length inner) ++ inner)
          ∙ append_assoc a (u 1) told;
      stands = (
        u 1,
        told,
        1,
        uvarint_spells 1 (omega arith),
        (
          Some h,
          told,
          [],
          (
            u HELD_TAG,
            u (length inner),
            inner,
            HELD_TAG,
            uvarint_spells HELD_TAG (omega arith),
            uvarint_spells (length inner) small,
            (refl, w.stands),
            refl,
          ),
          (refl, refl),
          sym (append-nil told),
        ),
        refl,
      );
    }

pub none_writes : {X E : Type 0} (a b : List ℕ) (result : Result X E) → OnOk result (b ≡ a ++ uvarint_bytes 0)
    → OnOk result (Writes held_tag a b None)
none_writes a b (Err f) w = tt
none_writes a b (Ok x) w = record {
  appended = w;
  stands = (uvarint_bytes 0, [], 0, uvarint_spells 0 (omega arith), (refl, refl), sym (append-nil (uvarint_bytes 0)));
}

-- ---- the structure

pub with_held_put : {X E S T : Type 0} (shape : Shape S (T × Option HeldRecords)) (f : Format T) (a c : List ℕ) (s : S) (result : Result X E)
    → OnOk result (Writes (f ▹ held_tag) a c (shape.parts s)) → OnOk result (Writes (structure_with_held shape f) a c s)
with_held_put shape f a c s (Ok x) w = record { appended = w.appended; stands = w.stands }
with_held_put shape f a c s (Err e) w = tt
