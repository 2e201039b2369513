use Rattle.broker_locks.specs.Acting.{StayOf}
use Rattle.broker_locks.specs.Expiring.{Expires}
use Rattle.broker_locks.proofs.expiry.expire_parts.Given as goal

abbrev pub invariant-loop-shard : goal.invariant-loop-shard
invariant-loop-shard g l = record {
  stay : StayOf l.initial.shared l.fn.passes l.passes;
  done : Expires g.D.Disk.seen l.initial.shared l.shard l.answer l.fn.passes l.passes (g.C.Clock.told l.fn.clock) (g.C.Clock.told l.clock);
}
