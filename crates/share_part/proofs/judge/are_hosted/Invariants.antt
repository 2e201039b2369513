use Rattle.part_log.specs.Logs.{log_in}
use Rattle.share_part.specs.Hosting.{IsHosted}
use Rattle.share_coord.specs.States.{states_of}
use Rattle.share_part.proofs.Ordered.{Walks}
use Rattle.share_part.proofs.judge.are_hosted.Given as goal

abbrev pub invariant-loop-key : goal.invariant-loop-key
invariant-loop-key g l = Walks (IsHosted l.conf (log_in l.log)) (states_of l.states.entries) l.key-iterator
