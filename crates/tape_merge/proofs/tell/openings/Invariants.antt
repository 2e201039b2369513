use Rattle.std.proofs.Common.{◌≡◌, ◌++◌, drop}
use Rattle.tape_merge.specs.Telling.{openings}
use Rattle.tape_merge.proofs.tell.openings.Given as goal

abbrev pub invariant-loop-id : goal.invariant-loop-id
invariant-loop-id l = l.events.items ++ openings l.id (drop l.id l.links) ≡ openings 0 l.links
