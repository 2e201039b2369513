use Rattle.std.specs.List.{AllByRecursion}
use Rattle.broker_run.specs.Homes.{IsHome}
use Rattle.broker_run.proofs.jobs.give_all_back.Given as goal

abbrev pub invariant-loop-row : goal.invariant-loop-row
invariant-loop-row g l = AllByRecursion (IsHome g.D.Disk.seen g.K.Link.left g.K.Link.held g.C.Clock.told g.B.Naming.shared) l.passes.items

abbrev pub decreases-loop-row : goal.decreases-loop-row
decreases-loop-row g l = goal.left-loop-row g l
