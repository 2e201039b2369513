-- State records: what is read is spelled so, and what is spelled so is read.
use Rattle.std.proofs.Common.{◌≡◌, ℕ, ℤ, pos, negsuc, ◌-◌, ◌^◌, ◌<◌, ◌≤◌, Bool, true, false, cond, List, ◌++◌, length}
use Rattle.std.proofs.Common.{zero, suc, take, drop, Option, Some, None, Ok, Err, refl, sym, ap, subst, ◌∙◌, append_assoc, arith}
use Rattle.std.specs.Prelude.{nat_lt, ◌==◌, IfSome}
use Rattle.std.specs.Int.{w16, w32, w64, to_be_bytes}
use Rattle.std.specs.Str.{is_utf8}
use Rattle.std.proofs.lemmas.Bool.Decides.{nat_tests}
use Rattle.std.proofs.lemmas.List.{take_at, drop_at, take-append-drop, length-append, length-take}
use Rattle.share_model.specs.Keys.{KeyParts}
use Rattle.share_model.specs.Names.{IsName}
use Rattle.share_model.specs.declared.run.Run.{Run}
use Rattle.state_records.specs.States.{StateParts, IsEpoch, IsStart, IsKey, IsState}
use Rattle.state_records.specs.Spelling.{name_bytes, key_bytes, version_of, complete_bytes, epoch_number, start_number, runs_bytes, state_bytes}
use Rattle.flex_fields.specs.Reading.{At, past}
use Rattle.state_records.specs.Reading.{then_at, raw_at, number_at, below_at, is_name, name_at, key_of, key_at}
use Rattle.state_records.specs.Reading.{epoch_at, start_of, start_at, complete_at, all_runs_at, state_of_parts, state_at}
use Rattle.state_records.proofs.Spells.{IsBytes, IsBytes-drop, bind_ok, guard_else, guard_then, ok_is, Takes, Takes-then, Again, Spells}
use Rattle.state_records.proofs.Spells.{then_spells, as_spells, found_spells, raw_spells, number_spells, wide16, wide64}
use Rattle.state_records.proofs.Stored.{lt_no, yes_lt, no_lt, low32, AreAllRuns, all_runs_spells}

named : (bytes : List ℕ) → is_name bytes ≡ true → IsName bytes
named bytes e =
    let parts : (1 ≤ length bytes) × (length bytes ≤ 255) × (is_utf8 bytes ≡ true) = grind (arith, nat_tests) in
    record { some = parts.0; few = parts.1; utf8 = parts.2 }

name_test : (bytes : List ℕ) → IsName bytes → is_name bytes ≡ true
name_test bytes h =
    let some = h.some in
    let few = h.few in
    let utf8 = h.utf8 in
    grind (arith, nat_tests)

pub name_spells : Spells name_at name_bytes IsName
unfolding name_at
name_spells = record {
  takes = λ at x after fits e.
      let a = bind_ok (number_at w16 at)
      (λ n. cond (nat_lt (length n.1.left) n.0) (Err at.place) (cond (is_name (take n.0 n.1.left)) (Ok (take n.0 n.1.left, past n.0 n.1)) (Err at.place))) (x, after) e in
      let n = a.0.0 in
      let rest = a.0.1 in
      let g = guard_else (nat_lt (length rest.left) n) at.place (cond (is_name (take n rest.left)) (Ok (take n rest.left, past n rest)) (Err at.place)) (x, after) a.2 in
      let h = guard_then (is_name (take n rest.left)) at.place (Ok (take n rest.left, past n rest)) (x, after) g.1 in
      let t = (number_spells w16 (2 ^ 16) wide16).takes at n rest fits a.1 in
      let long : n ≤ length rest.left = lt_no _ _ g.0 in
      let len : length (take n rest.left) ≡ n = omega (arith, length-take n rest.left) in
      let second : Takes rest.left (take n rest.left) (drop n rest.left) = record { parts = sym (take-append-drop n rest.left); rest_fits = IsBytes-drop n rest.left t.0.rest_fits } in
      let both = Takes-then at.left (to_be_bytes w16 n) rest.left (take n rest.left) (drop n rest.left) t.0 second in
      let whole : Takes at.left (name_bytes (take n rest.left)) (drop n rest.left) = subst (λ (k : ℕ). Takes at.left (to_be_bytes w16 k ++ take n rest.left) (drop n rest.left)) (sym len) both in
      let made : List ℕ × At = (take n rest.left, past n rest) in
      subst (λ (z : List ℕ × At). Takes at.left (name_bytes z.0) z.1.left × IsName z.0) (ok_is made (x, after) h.1) (whole, named (take n rest.left) h.0);
  again = λ at x rest name e.
      let g1 = (number_spells w16 (2 ^ 16) wide16).again at (length x) (x ++ rest) (omega (arith, name.few)) (e ∙ append_assoc (to_be_bytes w16 (length x)) x rest) in
      let left = g1.after.left in
      let long : nat_lt (length left) (length x) ≡ false = no_lt _ _ (omega (arith, ap length g1.left, length-append x rest)) in
      let front : take (length x) left ≡ x = ap (take (length x)) g1.left ∙ take_at x rest (length x) refl in
      let back : drop (length x) left ≡ rest = ap (drop (length x)) g1.left ∙ drop_at x rest (length x) refl in
      record {
        after = past (length x) g1.after;
        is = rw (g1.is, long, front, name_test x name) refl;
        left = back;
      };
}

pub key_spells : Spells key_at key_bytes IsKey
unfolding key_at
key_spells =
    as_spells key_of (λ k. (k.group, (k.topic, k.part))) (then_at name_at (then_at (raw_at 16) (below_at w32 (2 ^ 31))))
    (λ x. name_bytes x.0 ++ (x.1.0 ++ to_be_bytes w32 x.1.1)) key_bytes (λ x. IsName x.0 × ((length x.1.0 ≡ 16) × (x.1.1 < 2 ^ 31))) IsKey
    (λ x. refl) (λ x f. record { group = f.0; topic = f.1.0; part = f.1.1 }) (λ k h. ((h.group, (h.topic, h.part)), refl, refl))
    (then_spells name_at (then_at (raw_at 16) (below_at w32 (2 ^ 31))) name_bytes (λ x. x.0 ++ to_be_bytes w32 x.1) IsName (λ x. (length x.0 ≡ 16) × (x.1 < 2 ^ 31)) name_spells
    (then_spells (raw_at 16) (below_at w32 (2 ^ 31)) (λ x. x) (to_be_bytes w32) (λ x. length x ≡ 16) (λ n. n < 2 ^ 31) (raw_spells 16) (low32 (2 ^ 31) (omega arith))))

epoch_back : (z : ℤ) → IsEpoch z → (epoch_number z < 2 ^ 31) × (pos (epoch_number z) ≡ z) × (to_be_bytes w32 (epoch_number z) ≡ to_be_bytes w32 (epoch_number z))
epoch_back (pos n) h = (h, refl, refl)
epoch_back (negsuc n) h = absurd h

pub epoch_spells : Spells epoch_at (λ z. to_be_bytes w32 (epoch_number z)) IsEpoch
unfolding epoch_at
epoch_spells =
    as_spells pos epoch_number (below_at w32 (2 ^ 31)) (to_be_bytes w32) (λ z. to_be_bytes w32 (epoch_number z)) (λ n. n < 2 ^ 31) IsEpoch
    (λ n. refl) (λ n h. h) epoch_back (low32 (2 ^ 31) (omega arith))

start_decoded : (n : ℕ) (z : ℤ) → start_of n ≡ Some z → (start_number z ≡ n) × IsStart z
start_decoded n (pos m) e = grind (arith, nat_tests)
start_decoded n (negsuc m) e = grind (arith, nat_tests)

start_coded : (z : ℤ) → IsStart z → (start_number z < 2 ^ 64) × (start_of (start_number z) ≡ Some z)
start_coded (pos n) h = (omega arith, ap (λ (b : Bool). cond b (Some (pos n)) (cond (n == 2 ^ 64 - 1) (Some (negsuc 0)) None)) (yes_lt n (2 ^ 63) h))
start_coded (negsuc n) h = (omega arith, ap (λ (k : ℕ). Some (negsuc k)) (sym h))

pub start_spells : Spells start_at (λ z. to_be_bytes w64 (start_number z)) IsStart
unfolding start_at
start_spells =
    found_spells start_of start_number (number_at w64) (to_be_bytes w64) (λ n. n < 2 ^ 64) IsStart start_decoded start_coded (number_spells w64 (2 ^ 64) wide64)

-- ---- the number of complete rows

-- what version 0 leaves out, and version 1 tells
abbrev pub FitsVersion : ℕ → Option ℕ → Type 0
FitsVersion version complete = IfSome complete (λ n. n < 2 ^ 64) × (version_of complete ≡ version)

nothing_again : (at : At) (x : Option ℕ) (rest : List ℕ) → version_of x ≡ 0 → at.left ≡ complete_bytes x ++ rest → Again (complete_at 0) at x rest
unfolding complete_at
nothing_again at None rest version e = record { after = at; is = refl; left = e }
nothing_again at (Some n) rest version e = absurd (omega (arith, version))

number_in : Option ℕ → ℕ
number_in None = 0
number_in (Some n) = n

number_back : (c : Option ℕ) → FitsVersion 1 c → (number_in c < 2 ^ 64) × (Some (number_in c) ≡ c) × (to_be_bytes w64 (number_in c) ≡ complete_bytes c)
unfolding number_in
number_back None fits = absurd (omega (arith, fits.1))
number_back (Some n) fits = (fits.0, refl, refl)

told_spells : Spells (complete_at 1) complete_bytes (FitsVersion 1)
unfolding complete_at
told_spells = as_spells (λ k. Some k) number_in (number_at w64) (to_be_bytes w64) complete_bytes (λ n. n < 2 ^ 64) (FitsVersion 1)
    (λ n. refl) (λ n h. (h, refl)) number_back (number_spells w64 (2 ^ 64) wide64)

nothing_takes : (at : At) (x : Option ℕ) (after : At) → IsBytes at.left → complete_at 0 at ≡ Ok (x, after) → Takes at.left (complete_bytes x) after.left × FitsVersion 0 x
unfolding complete_at
nothing_takes at x after bytes e =
    let made : Option ℕ × At = (None, at) in
    subst (λ (z : Option ℕ × At). Takes at.left (complete_bytes z.0) z.1.left × FitsVersion 0 z.0) (ok_is made (x, after) e)
    (record { parts = refl; rest_fits = bytes }, (tt, refl))

pub complete_spells : (version : ℕ) → version < 2 → Spells (complete_at version) complete_bytes (FitsVersion version)
complete_spells zero low = record { takes = nothing_takes; again = λ at x rest fits e. nothing_again at x rest fits.1 e }
complete_spells (suc zero) low = told_spells
complete_spells (suc (suc n)) low = absurd (omega (arith, low))

-- ---- a state

abbrev pub Parts : Type 0
Parts = KeyParts × (ℕ × (ℤ × (ℤ × (ℤ × (Option ℕ × List Run)))))

parts_of : StateParts → Parts
parts_of s = (s.key, (s.snapshot, (s.state_epoch, (s.leader_epoch, (s.start, (s.complete, s.runs))))))

-- a state whose records are of this version
abbrev pub FitsState : ℕ → StateParts → Type 0
FitsState version s = IsState s × (version_of s.complete ≡ version)

pub state_spells : (version : ℕ) → version < 2 → Spells (state_at version) state_bytes (FitsState version)
unfolding state_at parts_of
state_spells version low =
    let complete = complete_at version in
    let s6 = then_spells complete all_runs_at complete_bytes runs_bytes (FitsVersion version) AreAllRuns (complete_spells version low) all_runs_spells in
    let s5 = then_spells start_at (then_at complete all_runs_at) (λ z. to_be_bytes w64 (start_number z)) (λ x. complete_bytes x.0 ++ runs_bytes x.1)
    IsStart (λ x. FitsVersion version x.0 × AreAllRuns x.1) start_spells s6 in
    let s4 = then_spells epoch_at (then_at start_at (then_at complete all_runs_at)) (λ z. to_be_bytes w32 (epoch_number z))
    (λ x. to_be_bytes w64 (start_number x.0) ++ (complete_bytes x.1.0 ++ runs_bytes x.1.1))
    IsEpoch (λ x. IsStart x.0 × (FitsVersion version x.1.0 × AreAllRuns x.1.1)) epoch_spells s5 in
    let s3 = then_spells epoch_at (then_at epoch_at (then_at start_at (then_at complete all_runs_at))) (λ z. to_be_bytes w32 (epoch_number z))
    (λ x. to_be_bytes w32 (epoch_number x.0) ++ (to_be_bytes w64 (start_number x.1.0) ++ (complete_bytes x.1.1.0 ++ runs_bytes x.1.1.1)))
    IsEpoch (λ x. IsEpoch x.0 × (IsStart x.1.0 × (FitsVersion version x.1.1.0 × AreAllRuns x.1.1.1))) epoch_spells s4 in
    let s2 = then_spells (number_at w64) (then_at epoch_at (then_at epoch_at (then_at start_at (then_at complete all_runs_at)))) (to_be_bytes w64)
    (λ x. to_be_bytes w32 (epoch_number x.0) ++ (to_be_bytes w32 (epoch_number x.1.0) ++ (to_be_bytes w64 (start_number x.1.1.0)
    ++ (complete_bytes x.1.1.1.0 ++ runs_bytes x.1.1.1.1))))
    (λ n. n < 2 ^ 64) (λ x. IsEpoch x.0 × (IsEpoch x.1.0 × (IsStart x.1.1.0 × (FitsVersion version x.1.1.1.0 × AreAllRuns x.1.1.1.1)))) (number_spells w64 (2 ^ 64) wide64) s3 in
    let s1 = then_spells key_at (then_at (number_at w64) (then_at epoch_at (then_at epoch_at (then_at start_at (then_at complete all_runs_at))))) key_bytes
    (λ x. to_be_bytes w64 x.0 ++ (to_be_bytes w32 (epoch_number x.1.0) ++ (to_be_bytes w32 (epoch_number x.1.1.0) ++ (to_be_bytes w64 (start_number x.1.1.1.0)
    ++ (complete_bytes x.1.1.1.1.0 ++ runs_bytes x.1.1.1.1.1)))))
    IsKey (λ x. (x.0 < 2 ^ 64) × (IsEpoch x.1.0 × (IsEpoch x.1.1.0 × (IsStart x.1.1.1.0 × (FitsVersion version x.1.1.1.1.0 × AreAllRuns x.1.1.1.1.1))))) key_spells s2 in
    as_spells state_of_parts parts_of (then_at key_at (then_at (number_at w64) (then_at epoch_at (then_at epoch_at (then_at start_at (then_at complete all_runs_at))))))
    (λ x. key_bytes x.0 ++ (to_be_bytes w64 x.1.0 ++ (to_be_bytes w32 (epoch_number x.1.1.0) ++ (to_be_bytes w32 (epoch_number x.1.1.1.0)
    ++ (to_be_bytes w64 (start_number x.1.1.1.1.0) ++ (complete_bytes x.1.1.1.1.1.0 ++ runs_bytes x.1.1.1.1.1.1))))))
    state_bytes
    (λ x. IsKey x.0 × ((x.1.0 < 2 ^ 64) × (IsEpoch x.1.1.0 × (IsEpoch x.1.1.1.0 × (IsStart x.1.1.1.1.0 × (FitsVersion version x.1.1.1.1.1.0 × AreAllRuns x.1.1.1.1.1.1))))))
    (FitsState version)
    (λ x. refl)
    (λ x f. (
      record {
        key = f.0;
        snapshot = f.1.0;
        state_epoch = f.1.1.0;
        leader_epoch = f.1.1.1.0;
        start = f.1.1.1.1.0;
        complete = f.1.1.1.1.1.0.0;
        runs = f.1.1.1.1.1.1.stored;
        few = f.1.1.1.1.1.1.few;
      },
      f.1.1.1.1.1.0.1,
    ))
    (λ s h. (
      (h.0.key, (h.0.snapshot, (h.0.state_epoch, (h.0.leader_epoch, (h.0.start, ((h.0.complete, h.1), record { stored = h.0.runs; few = h.0.few })))))),
      refl,
      refl,
    ))
    s1
