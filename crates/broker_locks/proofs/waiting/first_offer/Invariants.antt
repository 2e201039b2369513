use Rattle.std.proofs.Common.{take}
use Rattle.broker_locks.specs.Acting.{StayOf}
use Rattle.broker_locks.proofs.Waits.{LookedSoFar}
use Rattle.broker_locks.proofs.waiting.first_offer.Given as goal

abbrev pub invariant-loop-shard : goal.invariant-loop-shard
invariant-loop-shard g l = record {
  stay : StayOf l.initial.shared l.fn.passes l.passes;
  looks : LookedSoFar g.D.Disk.seen l.initial.shared l.initial.group l.initial.shards (take l.shard-index l.initial.shards) l.fn.passes l.passes;
}
