use Rattle.std.proofs.Common.{◌≡◌, [], arith}
use Rattle.std.proofs.lemmas.Map.Iter.{rest_all}
use Rattle.std.specs.Map.Iter.{deref_pair}
use Rattle.share_members.proofs.shard.due.Goals as goal

pub returns : goal.returns
returns c =
    let none : c.loop-group.group-iterator ≡ [] = rest_all deref_pair _ _ _ c.in-None.is c.next.ensures.steps in
    let whole = rw none at c.loop-group.invariant.so_far in
    omega arith
