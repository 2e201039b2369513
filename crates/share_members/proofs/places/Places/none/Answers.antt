use Rattle.std.proofs.Common.{◌≡◌, [], sym, subst, rules}
use Rattle.std.specs.Ordering.{nat_cmp}
use Rattle.std.specs.List.Sorted.{IsStrictlySortedBy}
use Rattle.share_members.proofs.Searched.{nothing_rises}
use Rattle.share_members.proofs.places.Places.none.Goals as goal

pub invariant_of-result : goal.invariant_of-result
invariant_of-result c =
    let empty : c.new-2.result ≡ [] = search rules in
    subst (λ places. IsStrictlySortedBy nat_cmp places) (sym empty) nothing_rises
