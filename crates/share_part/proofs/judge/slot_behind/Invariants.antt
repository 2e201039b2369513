use Rattle.std.proofs.Common.{◌≡◌, ◌≤◌, ◌-◌}
use Rattle.share_part.specs.Judging.{slot_behind}
use Rattle.share_part.proofs.judge.slot_behind.Given as goal

abbrev pub invariant-loop : goal.invariant-loop
invariant-loop g l = (slot_behind (2000 - l.counter) l.log.batches l.from ≡ slot_behind 2000 l.log.batches l.start) × (l.log.start ≤ l.from)
