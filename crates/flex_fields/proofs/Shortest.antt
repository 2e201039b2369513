-- No spelling of a number is shorter than the one that is written.
use Rattle.std.proofs.Common.{◌≡◌, ℕ, ℤ, pos, negsuc, zero, suc, ◌/◌, ◌%◌, ◌≤◌, Bool, true, false, cond, eqb, ltb, List, [], ◌∷◌, length}
use Rattle.std.proofs.Common.{refl, ap, sym, subst, arith, inl, inr, ◌∙◌}
use Rattle.std.proofs.lemmas.Bool.{le-ltb, lt-ltb, cases_lt, eqb-true, eqb-false}
use Rattle.flex_fields.specs.Reading.{unzigzag}
use Rattle.flex_fields.specs.Grammar.{IsBytes, IsGroups, IsUvarint, IsVarint, IsVarlong}
use Rattle.flex_fields.specs.Writing.{groups_of, uvarint_bytes, zigzag, varint_bytes, varlong_bytes}

groups_short : (more n : ℕ) (bytes : List ℕ) → IsBytes bytes → IsGroups bytes n → length (groups_of more n) ≤ length bytes
unfolding groups_of
groups_short more n [] fits s = absurd s
groups_short zero n (b ∷ bytes) fits s = omega arith
groups_short (suc more) n (b ∷ []) fits s =
    let low : ltb n 128 ≡ true = lt-ltb _ _ (omega (arith, s.0, s.1)) in
    rw low (omega arith)
groups_short (suc more) n (b ∷ c ∷ bytes) fits s = elim (cases_lt n 128) [
  | inl low ↦
      let is_low : ltb n 128 ≡ true = lt-ltb _ _ low in
      rw is_low (omega arith)
  | inr high ↦
      let is_high : ltb n 128 ≡ false = le-ltb _ _ high in
      let rest-is : n / 128 ≡ s.1 = omega (arith, s.0, s.2, fits 0) in
      let rest = groups_short more s.1 (c ∷ bytes) (λ i. fits (suc i)) s.3 in
      rw (is_high, rest-is) (omega (arith, rest))
]

zigzag_unzigzag : (n : ℕ) → zigzag (unzigzag n) ≡ n
unfolding unzigzag
zigzag_unzigzag n = by_parity (eqb (n % 2) 0) refl where
  by_parity : (b : Bool) → eqb (n % 2) 0 ≡ b → zigzag (cond b (pos (n / 2)) (negsuc (n / 2))) ≡ n
  by_parity true e = omega (arith, eqb-true _ _ e)
  by_parity false e = omega (arith, eqb-false _ _ e)

pub uvarint_short : (n : ℕ) (bytes : List ℕ) → IsBytes bytes → IsUvarint bytes n → length (uvarint_bytes n) ≤ length bytes
uvarint_short n bytes fits s = groups_short 4 n bytes fits s.0

pub varint_short : (z : ℤ) (bytes : List ℕ) → IsBytes bytes → IsVarint bytes z → length (varint_bytes z) ≤ length bytes
varint_short z bytes fits s =
    subst (λ (n : ℕ). length (groups_of 4 n) ≤ length bytes) (sym (zigzag_unzigzag s.0) ∙ ap zigzag s.2)
    (groups_short 4 s.0 bytes fits s.1.0)

pub varlong_short : (z : ℤ) (bytes : List ℕ) → IsBytes bytes → IsVarlong bytes z → length (varlong_bytes z) ≤ length bytes
varlong_short z bytes fits s =
    subst (λ (n : ℕ). length (groups_of 9 n) ≤ length bytes) (sym (zigzag_unzigzag s.0) ∙ ap zigzag s.2)
    (groups_short 9 s.0 bytes fits s.1.0)
