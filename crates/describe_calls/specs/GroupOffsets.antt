-- DescribeShareGroupOffsets in hand (KIP-932 with KIP-1226 and Kafka's message schemas, DescribeShareGroupOffsetsRequest and
-- DescribeShareGroupOffsetsResponse, version 1): how far each group has come in the partitions that are asked for, all hosted ones
-- where the topics are null. A partition of which the group has no table has start -1 and lag -1, one that isn't hosted code 3 too,
-- and a group that isn't there code 69 and no topics.
-- For example of a table that starts at 2 with the lag 5 the reply tells 2 and 5, and of a group that nobody knows 69 (layer_rows,
-- `a table, a partition without one, and one that is not hosted`).
use Rattle.std.specs.Prelude.{◌+◌, ℕ, ℤ, pos, negsuc, Option, Some, None, List, [], ◌∷◌, map, take, drop, slice_get, if◌then◌else◌}
use Rattle.std.specs.List.{range_with_len}
use Rattle.std.specs.Option.{option_map, unwrap_or}
use Rattle.uuid.specs.Parts.{zero_bytes}
use Rattle.share_model.specs.declared.fault.Code.{Code}
use Rattle.share_model.specs.ErrorCodes.{NONE, UNKNOWN_TOPIC_OR_PARTITION}
use Rattle.topic_conf.specs.declared.topic.Topic.{Topic}
use Rattle.topic_conf.specs.Topics.{shard_at}
use Rattle.msgs_admin.specs.declared.describe_offsets_reply.DescribedOffsets.{DescribedOffsets}
use Rattle.msgs_admin.specs.declared.describe_offsets_reply.DescribedTopic.{DescribedTopic}
use Rattle.msgs_admin.specs.declared.describe_offsets_request.AskedGroup.{AskedGroup}
use Rattle.msgs_admin.specs.declared.described_partition.DescribedPartition.{DescribedPartition}
use Rattle.msgs_admin.specs.declared.named_topic.NamedTopic.{NamedTopic}
use Rattle.msgs_admin.specs.DescribeOffsetsReply.{describe_offsets_reply}
use Rattle.call_fold.specs.declared.call.Entry.{Entry}
use Rattle.log_calls.specs.Produce.{id_named, shard_in}
use Rattle.describe_calls.specs.declared.group_offsets.AskedOffsets.{AskedOffsets}
use Rattle.describe_calls.specs.declared.group_offsets.AskedPartition.{AskedPartition}
use Rattle.describe_calls.specs.declared.group_offsets.AskedTopic.{AskedTopic}
use Rattle.describe_calls.specs.declared.looks.GroupAsk.{GroupAsk}
use Rattle.describe_calls.specs.declared.looks.GroupRow.{GroupRow}
use Rattle.describe_calls.specs.declared.looks.GroupRow.TheVariants.{Members, Table}
use Rattle.describe_calls.specs.declared.looks.TableRow.{TableRow}
use Rattle.describe_calls.specs.Groups.{GROUP_ID_NOT_FOUND, group_entries, group_shape, is_there}

-- ---- the plan

-- a topic of the request, and the shards of its partitions
abbrev pub asked_topic : List Topic → NamedTopic ℤ → AskedTopic
asked_topic topics t = record {
  name = t.name;
  id = id_named topics t.name;
  partitions = map (λ index. record { index = index; shard = shard_in topics (id_named topics t.name) index }) t.partitions;
}

-- a hosted topic with all its partitions
abbrev pub whole_partition : List Topic → List ℕ → ℕ → AskedPartition
whole_partition topics id number = record { index = pos number; shard = shard_at id (pos number) topics }

abbrev pub whole_topic : List Topic → Topic → AskedTopic
whole_topic topics topic = record {
  name = topic.name;
  id = Some topic.id;
  partitions = map (whole_partition topics topic.id) (range_with_len 0 topic.parts);
}

abbrev pub all_topics : List Topic → List AskedTopic
all_topics topics = map (whole_topic topics) topics

abbrev pub asked_offsets : List Topic → ℕ → AskedGroup → AskedOffsets
asked_offsets topics shards g = record {
  shape = group_shape shards g.group_id;
  topics = option_map (λ ts. map (asked_topic topics) ts) g.topics;
}

abbrev pub entries_asked : ℕ → AskedGroup → List (Entry GroupAsk GroupRow)
entries_asked shards g = group_entries shards g.group_id

-- ---- what the reply says of a group, by its rows

abbrev pub no_table : TableRow
no_table = record { start = negsuc 0; lag = negsuc 0; held = None }

-- how far it has come in the partition of this shard: the row of the members comes first
abbrev pub row_table : Option GroupRow → TableRow
row_table None = no_table
row_table (Some (Members members)) = no_table
row_table (Some (Table table)) = unwrap_or table no_table

abbrev pub table_at : List GroupRow → ℕ → TableRow
table_at rows shard = row_table (slice_get rows (shard + 1))

-- in leader epoch 0
abbrev pub come_to : ℤ → Code → TableRow → DescribedPartition
come_to index code table = record {
  partition_index = index;
  start_offset = table.start;
  leader_epoch = pos 0;
  lag = table.lag;
  error_code = code.0;
  error_message = None;
  held = table.held;
}

abbrev pub partition_by : List GroupRow → ℤ → Option ℕ → DescribedPartition
partition_by rows index (Some shard) = come_to index NONE (table_at rows shard)
partition_by rows index None = come_to index UNKNOWN_TOPIC_OR_PARTITION no_table

abbrev pub described_partition : List GroupRow → AskedPartition → DescribedPartition
described_partition rows asked = partition_by rows asked.index asked.shard

-- a topic that isn't hosted has the nil UUID
abbrev pub described_topic : List GroupRow → AskedTopic → DescribedTopic
described_topic rows topic = record {
  topic_name = topic.name;
  topic_id = unwrap_or topic.id zero_bytes;
  partitions = map (described_partition rows) topic.partitions;
}

abbrev pub described_offsets : List AskedTopic → List ℕ → Option (List AskedTopic) → List GroupRow → DescribedOffsets
described_offsets all id topics rows =
    if is_there rows
    then record {
      group_id = id;
      topics = map (described_topic rows) (unwrap_or topics all);
      error_code = NONE.0;
      error_message = None;
    }
    else record { group_id = id; topics = []; error_code = GROUP_ID_NOT_FOUND.0; error_message = None }

abbrev pub offsets_of : List AskedTopic → AskedOffsets → List GroupRow → DescribedOffsets
offsets_of all asked rows = described_offsets all asked.shape.name asked.topics rows

-- ---- the reply

-- the groups of the request, in order, each by its own rows
abbrev pub offsets_by_rows : List AskedTopic → List AskedOffsets → List GroupRow → List DescribedOffsets
offsets_by_rows all [] rows = []
offsets_by_rows all (one ∷ asked) rows = offsets_of all one (take one.shape.count rows) ∷ offsets_by_rows all asked (drop one.shape.count rows)

abbrev pub group_offsets_reply : List DescribedOffsets → List ℕ
group_offsets_reply groups = describe_offsets_reply.bytes (record { throttle_time_ms = pos 0; groups = groups })
