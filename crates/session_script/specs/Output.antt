-- The output of a replay: one line for each outcome, and a last line where the script is malformed or a disk is damaged.
-- The format is this project's own; docs/SCRIPT.md shows it.
-- For example a reply of the bytes 0, 255 and 26 to connection 1 is `reply 1 00ff1a`, and where three partitions of `orders` and one of
-- `audit` are hosted, a fault of the shard 3 is `fault audit/0`.
use Rattle.std.specs.Prelude.{◌<◌, ℕ, List, [], ◌∷◌, ◌++◌, Option, Some, None, codes}
use Rattle.std.specs.List.{flat_map}
use Rattle.std.specs.Fmt.{decimal, signed_decimal}
use Rattle.hex.specs.Hex.{encode_lower}
use Rattle.share_model.specs.declared.close_cause.CloseCause.{CloseCause}
use Rattle.share_model.specs.declared.close_cause.CloseCause.TheVariants.{TooLong, BadHeader, UnknownApi, BadBody, LongReply}
use Rattle.share_model.specs.declared.visit.ShardId.{ShardId}
use Rattle.share_model.specs.declared.visit.ShardId.TheVariants.{Part, Members, Foreign}
use Rattle.topic_conf.specs.declared.topic.Topic.{Topic}
use Rattle.topic_conf.specs.Topics.{partitions, partition_at_shard}
use Rattle.session_script.specs.declared.event.Outcome.{Outcome}
use Rattle.session_script.specs.declared.event.Outcome.TheVariants.{Fault, Reply, Closed, Restarted}

-- an api's key and version are signed numbers; 32 is a blank
abbrev pub cause_text : CloseCause → List ℕ
cause_text (TooLong size) = codes "too-long" ++ 32 ∷ decimal size
cause_text BadHeader = codes "bad-header"
cause_text (UnknownApi key version) = codes "unknown-api" ++ 32 ∷ (signed_decimal key ++ 32 ∷ signed_decimal version)
cause_text (BadBody place) = codes "bad-body" ++ 32 ∷ decimal place
cause_text LongReply = codes "long-reply"

-- a partition by its topic's name and its number, as `orders/0`
abbrev pub partition_text : Option (Topic × ℕ) → List ℕ
partition_text (Some (topic, part)) = topic.name ++ (codes "/" ++ decimal part)
partition_text None = []

-- the partition of a shard of these topics; the other shards have none
abbrev pub shard_text : List Topic → ShardId → List ℕ
shard_text topics (Part shard) = partition_text (partition_at_shard topics shard)
shard_text topics Members = []
shard_text topics Foreign = []

-- the line of an outcome, with its line feed, which is 10; the topics are those that are hosted
abbrev pub outcome_line : List Topic → Outcome → List ℕ
outcome_line topics (Fault shard) = codes "fault" ++ 32 ∷ (shard_text topics shard ++ 10 ∷ [])
outcome_line topics (Reply conn frame) = codes "reply" ++ 32 ∷ (decimal conn ++ 32 ∷ (encode_lower frame ++ 10 ∷ []))
outcome_line topics (Closed conn cause) = codes "closed" ++ 32 ∷ (decimal conn ++ 32 ∷ (cause_text cause ++ 10 ∷ []))
outcome_line topics Restarted = codes "restarted" ++ 10 ∷ []

abbrev pub output_of : List Topic → List Outcome → List ℕ
output_of topics outcomes = flat_map (outcome_line topics) outcomes

-- the shard is that of a partition that is hosted
abbrev pub IsHostedShard : List Topic → ShardId → Type 0
IsHostedShard topics (Part shard) = shard < partitions topics
IsHostedShard topics Members = ⊥
IsHostedShard topics Foreign = ⊥

-- an outcome of a broker that hosts these topics: a fault is that of a partition
abbrev pub IsTold : List Topic → Outcome → Type 0
IsTold topics (Fault shard) = IsHostedShard topics shard
IsTold topics (Reply conn frame) = Unit {0}
IsTold topics (Closed conn cause) = Unit {0}
IsTold topics Restarted = Unit {0}

-- the last line of a script that is malformed at this place
abbrev pub malformed_line : ℕ → List ℕ
malformed_line place = codes "malformed" ++ 32 ∷ (decimal place ++ 10 ∷ [])

-- the last line where the content of this disk is damaged at this place
abbrev pub damaged_line : List ℕ → ℕ → List ℕ
damaged_line disk place = codes "damaged" ++ 32 ∷ (disk ++ 32 ∷ (decimal place ++ 10 ∷ []))
