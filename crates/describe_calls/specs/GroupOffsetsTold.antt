-- What a DescribeShareGroupOffsets means by its request (KIP-932, DescribeShareGroupOffsetsRequest.json): of each group the members'
-- shard and the shard of each hosted partition are asked, in the order of the request, and the reply has its groups in order, each
-- told by the answers to its own questions alone: each partition by the answer of that partition's own shard.
-- For example `g` and `h` on two partitions ask six times; partition 1 of `g` is told by the third answer, and that of `h` by the
-- sixth (layer_rows, `two groups, each told by its own tables`).
use Rattle.std.specs.Prelude.{◌≡◌, ℕ, ℤ, true, Option, Some, List, map, flat_map, slice_get}
use Rattle.std.specs.Option.{unwrap_or}
use Rattle.topic_conf.specs.declared.topic.Topic.{Topic}
use Rattle.msgs_admin.specs.declared.describe_offsets_reply.DescribedOffsets.{DescribedOffsets}
use Rattle.msgs_admin.specs.declared.named_topic.NamedTopic.{NamedTopic}
use Rattle.describe_calls.specs.declared.group_offsets.AskedOffsets.{AskedOffsets}
use Rattle.describe_calls.specs.declared.group_offsets.AskedTopic.{AskedTopic}
use Rattle.describe_calls.specs.declared.looks.TableRow.{TableRow}
use Rattle.describe_calls.specs.Groups.{is_group}
use Rattle.describe_calls.specs.GroupsTold.{AreAsked, GroupBeside, rows_in}
use Rattle.describe_calls.specs.GroupOffsets.{asked_offsets, no_table, offsets_by_rows, offsets_of, table_at}

-- a group as it is asked, with the topics that are asked for
abbrev pub asked_of : List Topic → ℕ → GroupBeside × Option (List (NamedTopic ℤ)) → AskedOffsets
asked_of topics shards x = asked_offsets topics shards (record { group_id = x.0.id; topics = x.1 })

abbrev pub own_offsets : List AskedTopic → List Topic → ℕ → GroupBeside × Option (List (NamedTopic ℤ)) → DescribedOffsets
own_offsets all topics shards x = offsets_of all (asked_of topics shards x) (rows_in x.0)

pub record TellsItsTable : Type 0 where
  -- once all answers have come, the reply tells each group by its own
  pub says_own : (all : List AskedTopic) (topics : List Topic) (shards : ℕ) (told : List (GroupBeside × Option (List (NamedTopic ℤ)))) →
      AreAsked shards (map (λ x. x.0) told) →
      offsets_by_rows all (map (asked_of topics shards) told) (flat_map (λ x. rows_in x.0) told) ≡ map (own_offsets all topics shards) told
  -- and each partition by the answer of its own shard
  pub own_table : (g : GroupBeside) (shard : ℕ) (table : Option TableRow) → is_group g.id ≡ true → slice_get g.tables shard ≡ Some table →
      table_at (rows_in g) shard ≡ unwrap_or table no_table
