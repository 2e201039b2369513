use Rattle.std.proofs.Common.{◌≡◌, map, take}
use Rattle.share_session.specs.Plans.{release, shards_of, without_shards}
use Rattle.share_session.proofs.visits.other_releases.Given as goal

abbrev pub invariant-loop-shard : goal.invariant-loop-shard
invariant-loop-shard l = l.plan.items ≡ map (release l.caller) (without_shards (shards_of l.wanted.entries) (take l.shard-index l.shards))
