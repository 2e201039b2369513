-- The least offset whose lock has ended, from the index of runs.
use Rattle.std.proofs.Common.{◌≡◌, ℕ, ◌<◌, ◌≤◌, List, [], ◌∷◌, Option, Some, None, ap, ◌∙◌, sym, subst, arith, inl, inr}
use Rattle.std.proofs.lemmas.Bool.{cases_lt}
use Rattle.share_model.specs.Held.{hold_at, IsLeastDue}
use Rattle.share_model.specs.declared.hold.Hold.{Hold}
use Rattle.lock_index.specs.declared.run.HoldRun.{HoldRun}
use Rattle.lock_index.specs.Locks.{HasPair, IsLeastFirst}
use Rattle.lock_index.specs.Runs.{IsCanonical, held_of}
use Rattle.lock_index.proofs.Looks.{look_below, look_beyond, look_here}
use Rattle.window_runs.specs.Kept.{indexed, pair_of}
use Rattle.window_runs.proofs.Indexes.{first_behind, had_put, has_put, keeps_put, pair_first}

none_some : (h : Hold) → None ≡ Some h → ⊥
none_some h is = absurd (cc)

some_one : (x y : Hold) → Some x ≡ Some y → x ≡ y
some_one x y is = cc

-- what is held is held by a run, whose pair is in the index
whose_pair : (xs : List HoldRun) (o : ℕ) (hold : Hold) → IsCanonical xs → hold_at (held_of xs) o ≡ Some hold
    → (first : ℕ) × HasPair (indexed xs) (hold.end, first) × (first ≤ o)
whose_pair [] o hold canonical is = absurd (none_some hold is)
whose_pair (x ∷ xs) o hold canonical is = elim (cases_lt o x.first) [
  | inl under ↦
      let rest = whose_pair xs o hold canonical.2 (sym (look_below x xs o under) ∙ is) in
      (rest.0, keeps_put (pair_of x) (hold.end, rest.0) (indexed xs) rest.1, rest.2)
  | inr from ↦ elim (cases_lt x.last o) [
    | inl over ↦
        let rest = whose_pair xs o hold canonical.2 (sym (look_beyond x xs o canonical.0 over) ∙ is) in
        (rest.0, keeps_put (pair_of x) (hold.end, rest.0) (indexed xs) rest.1, rest.2)
    | inr upto ↦
        let same : x.hold ≡ hold = some_one x.hold hold (sym (look_here x xs o from upto) ∙ is) in
        (x.first, subst (λ (h : Hold). HasPair (indexed (x ∷ xs)) (h.end, x.first)) same (has_put (pair_of x) (indexed xs)), from)
  ]
]

-- a pair of the index is that of a run, which holds its first offset
held_pair : (xs : List HoldRun) (pair : ℕ × ℕ) → IsCanonical xs → HasPair (indexed xs) pair
    → (hold : Hold) × (hold_at (held_of xs) pair.1 ≡ Some hold) × (hold.end ≡ pair.0)
held_pair [] pair canonical has = absurd has
held_pair (x ∷ xs) pair canonical has = elim (had_put (pair_of x) pair (indexed xs) has) [
  | inl same ↦
      let first : x.first ≡ pair.1 = ap (λ (p : ℕ × ℕ). p.1) same in
      (x.hold, subst (λ (o : ℕ). hold_at (held_of (x ∷ xs)) o ≡ Some x.hold) first (look_here x xs x.first (omega arith) canonical.0), ap (λ (p : ℕ × ℕ). p.0) same)
  | inr deep ↦
      let rest = held_pair xs pair canonical.2 deep in
      let over : x.last < pair.1 = first_behind x xs pair.1 canonical.1 canonical.2 (pair_first xs pair deep) in
      (rest.0, look_beyond x xs pair.1 canonical.0 over ∙ rest.1, rest.2)
]

pub least_due : (xs : List HoldRun) (now : ℕ) (found : Option ℕ) → IsCanonical xs → IsLeastFirst (indexed xs) now found → IsLeastDue (held_of xs) now found
least_due xs now None canonical is = λ o hold at.
    let pair = whose_pair xs o hold canonical at in
    is (hold.end, pair.0) pair.1
least_due xs now (Some least) canonical is =
    let own = held_pair xs (is.0.0, least) canonical is.0.1 in (
      (own.0, own.1, omega (arith, own.2, is.0.2)),
      λ o hold at due. (let pair = whose_pair xs o hold canonical at in omega (arith, is.1 (hold.end, pair.0) pair.1 due, pair.2)),
    )
