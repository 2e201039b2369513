-- The partition of a shard, as messages name it: by its topic's id and its number (this project's own; shards are numbered topic by
-- topic and partition by partition).
-- For example with three partitions of `orders` and one of `audit` the shard 3 is partition 0 of `audit`.
use Rattle.std.specs.Prelude.{ℕ, pos, ◌-◌, nat_lt, List, [], ◌∷◌, Option, Some, None, if◌then◌else◌}
use Rattle.topic_conf.specs.declared.topic.Topic.{Topic}
use Rattle.share_calls.specs.declared.partition.PartitionId.{PartitionId}

abbrev pub partition_of : List Topic → ℕ → Option PartitionId
partition_of [] shard = None
partition_of (topic ∷ topics) shard =
    if nat_lt shard topic.parts then Some (record { topic_id = topic.id; index = pos shard }) else partition_of topics (shard - topic.parts)
