use Rattle.std.proofs.Common.{◌≡◌, map, take}
use Rattle.share_session.specs.Plans.{release}
use Rattle.share_session.proofs.visits.releases.Given as goal

abbrev pub invariant-loop-shard : goal.invariant-loop-shard
invariant-loop-shard l = l.plan.items ≡ map (release l.caller) (take l.shard-index l.shards)
