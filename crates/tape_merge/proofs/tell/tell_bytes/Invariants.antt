use Rattle.std.proofs.Common.{◌≡◌, ◌++◌, length}
use Rattle.tape_merge.proofs.Tellings.{bytes_told}
use Rattle.tape_merge.proofs.tell.tell_bytes.Given as goal

abbrev pub invariant-loop-piece : goal.invariant-loop-piece
invariant-loop-piece l = l.events.items ++ bytes_told l.id l.rest ≡ l.fn.events.items ++ bytes_told l.id l.bytes

abbrev pub decreases-loop-piece : goal.decreases-loop-piece
decreases-loop-piece l = length l.rest
