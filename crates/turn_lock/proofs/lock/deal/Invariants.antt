use Rattle.std.proofs.Common.{◌≡◌, ◌+◌, length, []}
use Rattle.shard_lock.specs.Passes.{AreNew}
use Rattle.turn_lock.specs.Rule.{maker, lock_of}
use Rattle.turn_lock.proofs.lock.deal.Given as goal

abbrev pub invariant-loop-number : goal.invariant-loop-number
invariant-loop-number g l = (l.place.table_id ≡ l.fn.place.table_id) × (l.place.me ≡ (maker l.fn.top.key.shard.value l.fn.seats l.number, []))
    × AreNew (lock_of l.fn.top.table_id l.fn.top.key) 1 l.passes.items × (length l.passes.items + 1 ≡ l.number)
