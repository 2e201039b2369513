-- Each field is read just where its bytes stand for it.
use Rattle.std.proofs.Common.{◌≡◌, ℕ, ℤ, zero, suc, ◌+◌, ◌-◌, ◌*◌, ◌<◌, ◌≤◌, Bool, true, false, cond, ltb, List, [], ◌∷◌, ◌++◌, length}
use Rattle.std.proofs.Common.{get_or, take, Result, Ok, Err, refl, sym, ap, subst, ◌∙◌, arith, inl, inr, ◌⊎◌, length-append, add-one}
use Rattle.std.specs.Int.{Width, w8, w16, w32, w64, byte_len, from_be_bytes, cast_signed}
use Rattle.std.proofs.lemmas.Bool.{ltb-false, ltb-true, le-ltb, lt-ltb}
use Rattle.std.proofs.lemmas.List.{get_or-append-add, take_at, drop_at, take-append-drop, length-take}
use Rattle.flex_fields.specs.declared.fault.WireFault.{WireFault}
use Rattle.flex_fields.specs.declared.fault.WireFault.TheVariants.{Short, BadVarint}
use Rattle.flex_fields.specs.Reading.{At, past, ◌>>=◌, int_at, raw_at, groups_at, limit}
use Rattle.flex_fields.specs.Sound.Limits.{limit_at_least}
use Rattle.flex_fields.specs.Grammar.{IsInt, IsRaw, IsGroups, IsBytes}
use Rattle.flex_fields.specs.Laws.{Takes, IsReader}

pub bind_ok : {A B : Type 0} (r : Result A WireFault) (f : A → Result B WireFault) (y : B) → (r >>= f) ≡ Ok y → (x : A) × (r ≡ Ok x) × (f x ≡ Ok y)
bind_ok (Ok x) f y e = (x, refl, e)
bind_ok (Err d) f y e = absurd cc

-- a test that did not refuse
pub guard_ok : {A : Type 0} (b : Bool) (d : WireFault) (r : Result A WireFault) (y : A) → cond b (Err d) r ≡ Ok y → (b ≡ false) × (r ≡ Ok y)
guard_ok true d r y e = absurd cc
guard_ok false d r y e = (refl, e)

pub chosen : {A : Type 0} (b : Bool) (x y z : A) → cond b x y ≡ z → ((b ≡ true) × (x ≡ z)) ⊎ ((b ≡ false) × (y ≡ z))
chosen true x y z e = inl (refl, e)
chosen false x y z e = inr (refl, e)

abbrev done : {A : Type 0} → A → Result A WireFault
done x = Ok x

pub ok_is : {A : Type 0} (x y : A) → done x ≡ done y → x ≡ y
ok_is x y e = cc

pub IsBytes-rest : (at after : At) (P : List ℕ → Type 0) → IsBytes at.left → Takes at after P → IsBytes after.left
IsBytes-rest at after P fits t i =
    let e : get_or at.left (length t.front + i) 0 ≡ get_or after.left i 0 =
    ap (λ (l : List ℕ). get_or l (length t.front + i) 0) t.parts ∙ get_or-append-add t.front after.left i 0 in
    omega (arith, e, fits (length t.front + i))

pub int_reads : (w : Width) → 0 < byte_len w → IsReader (IsInt w) (int_at w)
int_reads w wide = record {
  takes = λ at x after fits e.
      let n = byte_len w in
      let g = guard_ok (ltb (length at.left) n) (Short at.place) (done (cast_signed w (from_be_bytes w (take n at.left)), past n at)) (x, after) e in
      let long : n ≤ length at.left = ltb-false _ _ g.0 in
      let len : length (take n at.left) ≡ n = omega (arith, length-take n at.left) in
      let pair = ok_is (cast_signed w (from_be_bytes w (take n at.left)), past n at) (x, after) g.1 in
      let x-is : cast_signed w (from_be_bytes w (take n at.left)) ≡ x = ap (λ (p : ℤ × At). p.0) pair in
      let after-is : past n at ≡ after = ap (λ (p : ℤ × At). p.1) pair in
      record {
        front = take n at.left;
        parts = sym (take-append-drop n at.left) ∙ ap (λ (a : At). take n at.left ++ a.left) after-is;
        moved = ap (λ (a : At). a.place) (sym after-is) ∙ ap (λ (k : ℕ). at.place + k) (sym len);
        spelled = (len, sym x-is);
      };
  gives = λ front tail place x s.
      let long : ltb (length (front ++ tail)) (byte_len w) ≡ false = le-ltb _ _ (omega (arith, length-append front tail, s.0)) in
      rw (long, take_at front tail (byte_len w) s.0, drop_at front tail (byte_len w) s.0, ← s.1, ← s.0) refl;
  some = λ front x s. omega (arith, s.0, wide);
}

pub raw_reads : (n : ℕ) → 0 < n → IsReader (IsRaw n) (raw_at n)
raw_reads n wide = record {
  takes = λ at x after fits e.
      let g = guard_ok (ltb (length at.left) n) (Short at.place) (done (take n at.left, past n at)) (x, after) e in
      let len : length (take n at.left) ≡ n = omega (arith, length-take n at.left, ltb-false _ _ g.0) in
      subst (λ (p : List ℕ × At). Takes at p.1 (λ front. IsRaw n front p.0)) (ok_is (take n at.left, past n at) (x, after) g.1) (record {
        front = take n at.left;
        parts = sym (take-append-drop n at.left);
        moved = ap (λ (k : ℕ). at.place + k) (sym len);
        spelled = (len, refl);
      });
  gives = λ front tail place x s.
      let long : ltb (length (front ++ tail)) n ≡ false = le-ltb _ _ (omega (arith, length-append front tail, s.0)) in
      rw (long, take_at front tail n s.0, drop_at front tail n s.0) (λ i. Ok (sym s.1 i, record { place = place + sym s.0 i; left = tail }));
  some = λ front x s. omega (arith, s.0, wide);
}

pub int8_reads : IsReader (IsInt w8) (int_at w8)
int8_reads = int_reads w8 (omega arith)

pub int16_reads : IsReader (IsInt w16) (int_at w16)
int16_reads = int_reads w16 (omega arith)

pub int32_reads : IsReader (IsInt w32) (int_at w32)
int32_reads = int_reads w32 (omega arith)

pub int64_reads : IsReader (IsInt w64) (int_at w64)
int64_reads = int_reads w64 (omega arith)

pub uuid_reads : IsReader (IsRaw 16) (raw_at 16)
uuid_reads = raw_reads 16 (omega arith)

-- ---- numbers in groups

groups_more : (b : ℕ) (bytes : List ℕ) (n high : ℕ) → 128 ≤ b → n + 128 ≡ b + 128 * high → IsGroups bytes high → IsGroups (b ∷ bytes) n
groups_more b [] n high le e h = absurd h
groups_more b (c ∷ bytes) n high le e h = (le, high, e, h)

pub record GroupsTake (top more : ℕ) (bytes : List ℕ) (n count : ℕ) : Type 0 where
  pub within : count ≤ length bytes
  pub few : count ≤ more + 1
  pub spelled : IsGroups (take count bytes) n
  pub small : n < limit top more

pub groups_take : (place top more : ℕ) (bytes : List ℕ) (n count : ℕ) → top < 128 → IsBytes bytes
    → groups_at place top more bytes ≡ Ok (n, count) → GroupsTake top more bytes n count
unfolding groups_at
groups_take place top zero [] n count low fits e = absurd cc
groups_take place top (suc more) [] n count low fits e = absurd cc
groups_take place top zero (b ∷ bytes) n count low fits e =
    let g = guard_ok (ltb top b) (BadVarint place) (done (b, 1)) (n, count) e in
    let le : b ≤ top = ltb-false _ _ g.0 in
    let pair = ok_is (b, 1) (n, count) g.1 in
    subst (λ (p : ℕ × ℕ). GroupsTake top 0 (b ∷ bytes) p.0 p.1) pair
    (record { within = omega arith; few = omega arith; spelled = (omega arith, refl); small = omega arith })
groups_take place top (suc more) (b ∷ bytes) n count low fits e =
    elim (chosen (ltb b 128) (done (b, 1)) (groups_at place top more bytes >>= λ high. Ok ((b - 128) + 128 * high.0, high.1 + 1)) (Ok (n, count)) e) [
      | inl last ↦
          let lt : b < 128 = ltb-true _ _ last.0 in
          subst (λ (p : ℕ × ℕ). GroupsTake top (suc more) (b ∷ bytes) p.0 p.1) (ok_is (b, 1) (n, count) last.1)
          (record { within = omega arith; few = omega arith; spelled = (lt, refl); small = omega (arith, limit_at_least top more) })
      | inr goes_on ↦
          let le : 128 ≤ b = ltb-false _ _ goes_on.0 in
          let r = bind_ok (groups_at place top more bytes) (λ high. Ok ((b - 128) + 128 * high.0, high.1 + 1)) (n, count) goes_on.1 in
          let rest = groups_take place top more bytes r.0.0 r.0.1 low (λ i. fits (suc i)) r.1 in
          subst (λ (p : ℕ × ℕ). GroupsTake top (suc more) (b ∷ bytes) p.0 p.1) (ok_is ((b - 128) + 128 * r.0.0, r.0.1 + 1) (n, count) r.2) (record {
            within = omega (arith, rest.within);
            few = omega (arith, rest.few);
            spelled = rw add-one (groups_more b (take r.0.1 bytes) _ r.0.0 le (omega arith) rest.spelled);
            small = omega (arith, rest.small, fits 0);
          })
    ]

pub groups_give : (place top more : ℕ) (bytes tail : List ℕ) (n : ℕ) → IsGroups bytes n → length bytes ≤ more + 1 → n < limit top more
    → groups_at place top more (bytes ++ tail) ≡ Ok (n, length bytes)
unfolding groups_at
groups_give place top more [] tail n s few small = absurd s
groups_give place top zero (b ∷ []) tail n s few small =
    let low : ltb top b ≡ false = le-ltb _ _ (omega (arith, s.1, small)) in
    rw (low, s.1) refl
groups_give place top (suc more) (b ∷ []) tail n s few small =
    let low : ltb b 128 ≡ true = lt-ltb _ _ s.0 in
    rw (low, s.1) refl
groups_give place top zero (b ∷ c ∷ bytes) tail n s few small = absurd (omega arith)
groups_give place top (suc more) (b ∷ c ∷ bytes) tail n s few small =
    let high : ltb b 128 ≡ false = le-ltb _ _ s.0 in
    let rest = groups_give place top more (c ∷ bytes) tail s.1 s.3 (omega arith) (omega (arith, s.2, s.0)) in
    let n-is : (b - 128) + 128 * s.1 ≡ n = omega (arith, s.2, s.0) in
    let len-is : length (c ∷ bytes) + 1 ≡ length (b ∷ c ∷ bytes) = omega arith in
    rw (high, rest) (λ i. Ok (n-is i, len-is i))
