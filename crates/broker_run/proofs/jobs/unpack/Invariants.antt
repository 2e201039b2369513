use Rattle.std.proofs.Common.{◌≡◌, ◌+◌, ◌≤◌, vec_len, vec_capacity}
use Rattle.std.specs.List.{AllByRecursion}
use Rattle.broker_locks.specs.Rows.{IsAlone}
use Rattle.broker_run.specs.Working.{HasWorked}
use Rattle.broker_run.proofs.jobs.unpack.Given as goal

abbrev pub invariant-loop-handed : goal.invariant-loop-handed
invariant-loop-handed g l = record {
  each : AllByRecursion (IsAlone l.fn.shared) l.passes.items;
  worked : AllByRecursion (HasWorked g.D.Disk.seen g.K.Link.left g.K.Link.held g.C.Clock.told l.fn.shared) l.passes.items;
  sum : vec_len l.passes + vec_len l.home ≡ vec_len l.fn.home;
  room : vec_len l.fn.home ≤ vec_capacity l.passes;
}

abbrev pub decreases-loop-handed : goal.decreases-loop-handed
decreases-loop-handed g l = goal.left-loop-handed g l
