-- The topics that a broker hosts, and the numbers of their partitions' shards (this project's own). A topic is named by its
-- name, which is one that Kafka allows, or by its id, which has 16 bytes.
-- For example 63 partitions of `orders` and one of `audit` may be hosted together, and 64 and one may not.
use Rattle.std.specs.Prelude.{◌≡◌, ◌≢◌, ◌≤◌, ◌+◌, ◌-◌, ℕ, ℤ, pos, negsuc, List, [], ◌∷◌, Option, Some, None, length, All, AllPairs}
use Rattle.std.specs.Prelude.{sum_by, nat_lt, if◌then◌else◌}
use Rattle.std.specs.List.{position}
use Rattle.std.specs.Option.{option_map}
use Rattle.std.specs.Str.{bytes_eq}
use Rattle.uuid.specs.Parts.{zero_bytes}
use Rattle.edge_io.specs.Names.{IsTopicName, most_partitions}
use Rattle.topic_conf.specs.declared.topic.Topic.{Topic}

-- a topic that may be hosted: it has a partition, and an id other than the nil UUID
pub record IsTopic (topic : Topic) : Type 0 where
  pub name : IsTopicName topic.name
  pub parts : 1 ≤ topic.parts
  pub id : topic.id ≢ zero_bytes

-- neither the name nor the id tells one for the other
pub record AreApart (topic other : Topic) : Type 0 where
  pub names : topic.name ≢ other.name
  pub ids : topic.id ≢ other.id

-- how many partitions the topics have together
abbrev pub partitions : List Topic → ℕ
partitions topics = sum_by (λ topic. topic.parts) topics

-- topics that one broker may host together
pub record IsTopicList (topics : List Topic) : Type 0 where
  pub some : 1 ≤ length topics
  pub each : All IsTopic topics
  pub apart : AllPairs AreApart topics
  pub few : partitions topics ≤ most_partitions

-- Where the topic of this name stands, counted from 0. In `orders`, `audit` the name `audit` stands at 1.
abbrev pub place_by_name : List ℕ → List Topic → Option ℕ
place_by_name name topics = position (λ topic. bytes_eq topic.name name) topics

-- where the topic of this id stands
abbrev pub place_by_id : List ℕ → List Topic → Option ℕ
place_by_id id topics = position (λ topic. bytes_eq topic.id id) topics

-- a partition of a topic, whose partitions are numbered from 0
abbrev pub partition_at : ℤ → ℕ → Option ℕ
partition_at (pos partition) parts = if nat_lt partition parts then Some partition else None
partition_at (negsuc _) parts = None

-- The number of a partition's shard. Shards are numbered from 0, topic by topic and partition by partition: with three
-- partitions of `orders` and one of `audit` they are orders 0, orders 1, orders 2, audit 0.
abbrev pub shard_at : List ℕ → ℤ → List Topic → Option ℕ
shard_at id partition [] = None
shard_at id partition (topic ∷ topics) =
    if bytes_eq topic.id id then partition_at partition topic.parts else option_map (λ shard. topic.parts + shard) (shard_at id partition topics)

-- The number of a partition's shard, by its topic's name: there, the shard of partition 0 of `audit` is 3.
abbrev pub shard_named : List ℕ → ℕ → List Topic → Option ℕ
shard_named name part [] = None
shard_named name part (topic ∷ topics) =
    if bytes_eq topic.name name then partition_at (pos part) topic.parts else option_map (λ shard. topic.parts + shard) (shard_named name part topics)

-- The partition of a shard: its topic, and its number in that. There, shard 3 is partition 0 of `audit`, and no shard is 4.
abbrev pub partition_at_shard : List Topic → ℕ → Option (Topic × ℕ)
partition_at_shard [] shard = None
partition_at_shard (topic ∷ topics) shard =
    if nat_lt shard topic.parts then Some (topic, shard) else partition_at_shard topics (shard - topic.parts)

-- the shard of this number is that of a partition
pub record IsShard (topics : List Topic) (shard : ℕ) : Type 0 where
  pub id : List ℕ
  pub partition : ℤ
  pub found : shard_at id partition topics ≡ Some shard
