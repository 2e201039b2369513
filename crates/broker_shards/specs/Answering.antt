-- Which part of a request asks what of which shard, and what a hosted partition answers to it. This project's own.
-- For example a part that looks at `g1` on shard 3 asks that shard for a look at `g1`, whose result is its answer; no part asks
-- for an expiry.
use Rattle.std.specs.Prelude.{ℕ, Option, Some, None}
use Rattle.call_fold.specs.declared.part.Part.{Part}
use Rattle.call_fold.specs.declared.part.Part.TheVariants as parts
use Rattle.call_fold.specs.declared.part.PartAnswer.{PartAnswer}
use Rattle.call_fold.specs.declared.part.PartAnswer.TheVariants as answers
use Rattle.broker_shards.specs.declared.asking.ShardAsk.{ShardAsk}
use Rattle.broker_shards.specs.declared.asking.ShardAsk.TheVariants as shard_ask
use Rattle.broker_shards.specs.declared.part.PartAsk.{PartAsk}
use Rattle.broker_shards.specs.declared.part.PartAsk.TheVariants as asks
use Rattle.broker_shards.specs.declared.part.PartTold.{PartTold}
use Rattle.broker_shards.specs.declared.part.PartTold.TheVariants as tells

-- the part that asks this of the shard with this number; none asks for an expiry, or what a fetch would find
abbrev pub part_asking : ℕ → PartAsk → Option Part
part_asking shard (asks.Visit visit) = Some (parts.Visit shard visit)
part_asking shard (asks.Produce batch) = Some (parts.Produce shard batch)
part_asking shard (asks.Delete to) = Some (parts.Delete shard to)
part_asking shard (asks.Look group) = Some (parts.Look shard group)
part_asking shard (asks.Offer group) = None
part_asking shard asks.Expire = None

-- the part that asks this
abbrev pub part_of : ShardAsk → Option Part
part_of (shard_ask.Part shard ask) = part_asking shard ask
part_of (shard_ask.Heartbeat request) = Some (parts.Heartbeat request)
part_of (shard_ask.Foreign op) = Some (parts.Foreign op)

-- what a partition told, as the answer to a part
abbrev pub answer_told : PartTold → Option PartAnswer
answer_told (tells.Visit told) = Some (answers.Visit told)
answer_told (tells.Produce told) = Some (answers.Produce told)
answer_told (tells.Delete told) = Some (answers.Delete told)
answer_told (tells.Look told) = Some (answers.Look told)
answer_told (tells.Offer told) = None
answer_told (tells.Expire told) = None
