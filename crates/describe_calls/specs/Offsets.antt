-- ListOffsets in hand (Kafka's message schemas, ListOffsetsRequest and ListOffsetsResponse, version 10): for each hosted partition
-- where its log starts, by the timestamp -2, or where it ends, by -1, and a reply with the topics and partitions of the request. That
-- other timestamps have code 42 is this project's own.
-- For example of a log that starts at 2 and ends at 7, -2 is told 2, -1 is told 7, and 5 is told -1 with code 42 (layer_rows,
-- `each timestamp of a ListOffsets has its own answer`).
use Rattle.std.specs.Prelude.{ℕ, ℤ, pos, negsuc, Option, Some, None, List, [], ◌∷◌, map, length, take, drop, if◌then◌else◌}
use Rattle.std.specs.Ordering.{int_eq}
use Rattle.share_model.specs.declared.fault.Code.{Code}
use Rattle.share_model.specs.ErrorCodes.{NONE, UNKNOWN_TOPIC_OR_PARTITION, INVALID_REQUEST}
use Rattle.topic_conf.specs.declared.topic.Topic.{Topic}
use Rattle.msgs_admin.specs.declared.list_offsets_reply.FoundOffset.{FoundOffset}
use Rattle.msgs_admin.specs.declared.list_offsets_request.ListOffsetsPartition.{ListOffsetsPartition}
use Rattle.msgs_admin.specs.declared.named_topic.NamedTopic.{NamedTopic}
use Rattle.msgs_admin.specs.ListOffsetsReply.{list_offsets_reply}
use Rattle.call_fold.specs.declared.call.Entry.{Entry}
use Rattle.call_fold.specs.declared.call.Entry.TheVariants.{Known, Ask}
use Rattle.log_calls.specs.Produce.{id_named, shard_in}
use Rattle.log_calls.specs.Shapes.{NamedShapeParts}
use Rattle.describe_calls.specs.declared.offsets.End.{End}
use Rattle.describe_calls.specs.declared.offsets.End.TheVariants.{Earliest, Latest}
use Rattle.describe_calls.specs.declared.offsets.LogEnds.{LogEnds}
use Rattle.describe_calls.specs.declared.offsets.OffsetAsk.{OffsetAsk}

-- which end of a log a timestamp stands for
abbrev pub end_asked : ℤ → Option End
end_asked timestamp =
    if int_eq timestamp (negsuc 1) then Some Earliest else if int_eq timestamp (negsuc 0) then Some Latest else None

-- what the reply says of a partition: a code, or an offset, in leader epoch 0; no record's timestamp is ever told
abbrev pub refused_row : ℤ → Code → FoundOffset
refused_row index code = record {
  partition_index = index;
  error_code = code.0;
  timestamp = negsuc 0;
  offset = negsuc 0;
  leader_epoch = negsuc 0;
}

abbrev pub found_row : ℤ → ℕ → FoundOffset
found_row index offset = record {
  partition_index = index;
  error_code = NONE.0;
  timestamp = negsuc 0;
  offset = pos offset;
  leader_epoch = pos 0;
}

abbrev pub end_row : ℤ → End → LogEnds → FoundOffset
end_row index Earliest ends = found_row index ends.start
end_row index Latest ends = found_row index ends.end

abbrev pub offset_row : OffsetAsk → LogEnds → FoundOffset
offset_row ask ends = end_row ask.index ask.end ends

-- by the first that applies: code 3 where the partition isn't hosted, 42 where the timestamp stands for no end
abbrev pub asked_entry : ℤ → ℕ → Option End → Entry OffsetAsk FoundOffset
asked_entry index shard None = Known (refused_row index INVALID_REQUEST)
asked_entry index shard (Some end) = Ask (record { index = index; shard = shard; end = end })

abbrev pub offset_entry : ListOffsetsPartition → Option ℕ → Entry OffsetAsk FoundOffset
offset_entry p None = Known (refused_row p.partition_index UNKNOWN_TOPIC_OR_PARTITION)
offset_entry p (Some shard) = asked_entry p.partition_index shard (end_asked p.timestamp)

abbrev pub offset_entries : List Topic → NamedTopic ListOffsetsPartition → List (Entry OffsetAsk FoundOffset)
offset_entries topics t = map (λ p. offset_entry p (shard_in topics (id_named topics t.name) p.partition_index)) t.partitions

abbrev pub offsets_shape : NamedTopic ListOffsetsPartition → NamedShapeParts
offsets_shape t = record { name = t.name; count = length t.partitions }

-- the rows under the topics of the request, in order
abbrev pub offsets_by_topic : List NamedShapeParts → List FoundOffset → List (NamedTopic FoundOffset)
offsets_by_topic [] rows = []
offsets_by_topic (one ∷ shape) rows =
    record { name = one.name; partitions = take one.count rows } ∷ offsets_by_topic shape (drop one.count rows)

abbrev pub offsets_reply : List (NamedTopic FoundOffset) → List ℕ
offsets_reply topics = list_offsets_reply.bytes (record { throttle_time_ms = pos 0; topics = topics })
