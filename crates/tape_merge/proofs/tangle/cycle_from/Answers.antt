use Rattle.std.proofs.Common.{◌≡◌, ◌<◌, ◌++◌, ◌∷◌, ◌∙◌, [], ℕ, true, false, eqb, nat_eq, length, slice_index, Contains, refl, ap, subst, sym, arith}
use Rattle.std.specs.List.{IsDistinct, list_any}
use Rattle.std.proofs.lemmas.Bool.{false≢true}
use Rattle.std.proofs.lemmas.List.{length_push}
use Rattle.std.proofs.lemmas.Map.Keys.{IsDistinct-push}
use Rattle.std.proofs.lemmas.Map.Steps.{length-le_from_distinct_below}
use Rattle.std.specs.Cmp.{nat_eq_equiv}
use Rattle.tape_merge.specs.Waiting.{WaitInRow}
use Rattle.tape_merge.proofs.Waits.{below_push, contains_head, cycle_found, distinct_nil, left_of_other, left_within, row_push}
use Rattle.tape_merge.proofs.tangle.cycle_from.Goals as goal

pub walk-init : goal.walk-init
walk-init c =
    let none = sym c.new-path.ensures.items in
    record {
      row = subst (λ x. WaitInRow c.args.tapes.now c.args.links.now c.args.counts.now x c.args.start) none tt;
      distinct = subst (λ x. IsDistinct eqb x) none distinct_nil;
      below = subst (λ x. (q : ℕ) → list_any (eqb q) x ≡ true → q < length c.args.links.now) none (λ q h. absurd (false≢true h));
      left = c.requires.left;
    }

pub waits_for-requires : goal.waits_for-requires
waits_for-requires c = record { apart = c.requires.apart; matched = c.requires.matched; stuck = c.requires.stuck; left = c.walk.invariant.left }

pub walk-preserved : goal.walk-preserved
walk-preserved c =
    let path = c.walk.path.items in
    let at = c.walk.at in
    let n = length c.args.links.now in
    let waits = c.in-Some.ensures.waits in
    let fresh : list_any (eqb at) path ≡ false = sym (c.has-found.ensures ∙ ap (λ x. list_any (nat_eq at) x) c.as_slice-items.ensures.value) ∙ c.if-found.false in
    let lt = left_within c.args.links.now (slice_index c.args.counts.now.gone at) at c.walk.invariant.left in
    let more = sym c.in_ok-push.ensures.items in
    record {
      row = subst (λ x. WaitInRow c.args.tapes.now c.args.links.now c.args.counts.now x c.in-Some.next) more
          (row_push c.args.tapes.now c.args.links.now c.args.counts.now path at c.in-Some.next c.walk.invariant.row waits);
      distinct = subst (λ x. IsDistinct eqb x) more (IsDistinct-push nat_eq_equiv path at c.walk.invariant.distinct fresh);
      below = subst (λ x. (q : ℕ) → list_any (eqb q) x ≡ true → q < n) more (below_push path at n c.walk.invariant.below lt);
      left = left_of_other c.args.tapes.now c.args.links.now c.args.counts.now at c.in-Some.next waits;
    }

pub walk-smaller : goal.walk-smaller
walk-smaller c =
    let path = c.walk.path.items in
    let at = c.walk.at in
    let n = length c.args.links.now in
    let fresh : list_any (eqb at) path ≡ false = sym (c.has-found.ensures ∙ ap (λ x. list_any (nat_eq at) x) c.as_slice-items.ensures.value) ∙ c.if-found.false in
    let lt = left_within c.args.links.now (slice_index c.args.counts.now.gone at) at c.walk.invariant.left in
    let few = length-le_from_distinct_below (path ++ at ∷ []) n (IsDistinct-push nat_eq_equiv path at c.walk.invariant.distinct fresh)
    (below_push path at n c.walk.invariant.below lt) in
    omega (arith, few, length_push path at, ap length c.in_ok-push.ensures.items)

pub row_from-row-requires : goal.row_from-row-requires
row_from-row-requires c =
    ap (λ x. list_any (nat_eq c.walk.at) x) (c.as_slice-whole.ensures.value ∙ sym c.as_slice-items.ensures.value) ∙ (sym c.has-found.ensures ∙ c.if-found.true)

pub least_of-link-requires : goal.least_of-link-requires
least_of-link-requires c =
    let first = c.row_from-row.ensures.first in
    subst (λ x. Contains x c.walk.at) (sym first.1) (contains_head c.walk.at first.0 c.walk.at refl)

pub returns : goal.returns
returns c =
    cycle_found c.args.tapes.now c.args.links.now c.args.counts.now c.row_from-row.result.now c.walk.at c.least_of-link.result c.gone-step.result
    c.row_from-row.ensures.first
    (c.row_from-row.ensures.row c.args.tapes.now c.args.links.now c.args.counts.now
    (subst (λ x. WaitInRow c.args.tapes.now c.args.links.now c.args.counts.now x c.walk.at) (sym c.as_slice-whole.ensures.value) c.walk.invariant.row))
    c.least_of-link.ensures.among c.least_of-link.ensures.least c.gone-step.ensures
