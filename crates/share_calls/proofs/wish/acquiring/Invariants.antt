use Rattle.std.proofs.Common.{◌≡◌, ◌++◌, map, filter, drop}
use Rattle.share_session.specs.Plans.{shard_of}
use Rattle.share_calls.specs.Wishes.{acquires}
use Rattle.share_calls.proofs.wish.acquiring.Given as goal

abbrev pub invariant-loop-step : goal.invariant-loop-step
invariant-loop-step l =
    l.shards.items ++ map shard_of (filter acquires (drop l.step-index l.steps)) ≡ map shard_of (filter acquires l.fn.steps)
