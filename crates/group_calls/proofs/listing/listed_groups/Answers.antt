use Rattle.std.proofs.Common.{◌≡◌, ◌∙◌, [], sym, append-nil}
use Rattle.std.proofs.lemmas.Map.Iter.{rest_all}
use Rattle.std.specs.Map.Iter.{deref_pair}
use Rattle.group_calls.proofs.listing.listed_groups.Goals as goal

pub returns : goal.returns
returns c =
    let none : c.loop-name.name-iterator ≡ [] = rest_all deref_pair _ _ _ c.in-None.is c.next.ensures.steps in
    let whole = rw none at c.loop-name.invariant in
    c.new.ensures.items ∙ sym (append-nil c.loop-name.list.items) ∙ whole
