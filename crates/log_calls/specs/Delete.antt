-- DeleteRecords in hand (DeleteRecordsRequest.json and DeleteRecordsResponse.json of version 2): for each hosted partition
-- the offset below which its records are to go, and a reply with the topics and partitions of the request.
-- For example an offset behind the log's end has code 1 and the low watermark -1, and one within the log is the low
-- watermark then (row_tests, `an offset that is no offset of the log, one at or below its start, and its end by -1`).
use Rattle.std.specs.Prelude.{ℕ, ℤ, pos, negsuc, Option, Some, None, List, [], ◌∷◌, map, flat_map, length, take, drop}
use Rattle.share_model.specs.declared.delete.DeleteAnswer.{DeleteAnswer}
use Rattle.share_model.specs.declared.delete.DeleteAnswer.TheVariants.{Done, OutOfRange, Store}
use Rattle.share_model.specs.declared.fault.Code.{Code}
use Rattle.share_model.specs.ErrorCodes.{NONE, OFFSET_OUT_OF_RANGE, UNKNOWN_TOPIC_OR_PARTITION, KAFKA_STORAGE_ERROR}
use Rattle.topic_conf.specs.declared.topic.Topic.{Topic}
use Rattle.msgs_base.specs.declared.delete_records_request.DeleteRecordsPartition.{DeleteRecordsPartition}
use Rattle.msgs_base.specs.declared.delete_records_request.DeleteRecordsTopic.{DeleteRecordsTopic}
use Rattle.msgs_base.specs.declared.delete_records_request.DeleteRecordsRequest.{DeleteRecordsRequest}
use Rattle.msgs_base.specs.declared.delete_records_reply.DeleteRecordsPartitionResult.{DeleteRecordsPartitionResult}
use Rattle.msgs_base.specs.declared.delete_records_reply.DeleteRecordsTopicResult.{DeleteRecordsTopicResult}
use Rattle.msgs_base.specs.DeleteRecordsReply.{delete_records_reply}
use Rattle.call_fold.specs.declared.part.Part.TheVariants.{Delete as PartDelete}
use Rattle.call_fold.specs.Parts.{delete_answer}
use Rattle.call_fold.specs.declared.call.Entry.{Entry}
use Rattle.call_fold.specs.declared.call.Entry.TheVariants.{Known, Ask}
use Rattle.call_fold.specs.declared.call.Stage.{Stage}
use Rattle.call_fold.specs.Calls.{Acts, AskingParts}
use Rattle.call_fold.specs.Going.{stage_of}
use Rattle.log_calls.specs.declared.delete.Target.{Target}
use Rattle.log_calls.specs.declared.delete.DeleteHand.{DeleteHand}
use Rattle.log_calls.specs.Produce.{id_named, shard_in}
use Rattle.log_calls.specs.Shapes.{NamedShapeParts}

-- what the reply says of a partition: where its log starts now, or a code
abbrev pub refused_row : ℤ → Code → DeleteRecordsPartitionResult
refused_row index code = record { partition_index = index; low_watermark = negsuc 0; error_code = code.0 }

abbrev pub delete_row : ℤ → DeleteAnswer → DeleteRecordsPartitionResult
delete_row index (Done start) = record { partition_index = index; low_watermark = pos start; error_code = NONE.0 }
delete_row index (OutOfRange end) = refused_row index OFFSET_OUT_OF_RANGE
delete_row index (Store fault) = refused_row index KAFKA_STORAGE_ERROR

-- code 3 where the partition isn't hosted
abbrev pub target_entry : DeleteRecordsPartition → Option ℕ → Entry Target DeleteRecordsPartitionResult
target_entry p None = Known (refused_row p.partition_index UNKNOWN_TOPIC_OR_PARTITION)
target_entry p (Some shard) = Ask (record { index = p.partition_index; shard = shard; offset = p.offset })

abbrev pub target_entries : List Topic → DeleteRecordsTopic → List (Entry Target DeleteRecordsPartitionResult)
target_entries topics t = map (λ p. target_entry p (shard_in topics (id_named topics t.name) p.partition_index)) t.partitions

abbrev pub target_shape : DeleteRecordsTopic → NamedShapeParts
target_shape t = record { name = t.name; count = length t.partitions }

-- the rows under the topics of the request, in order
abbrev pub results_by_topic : List NamedShapeParts → List DeleteRecordsPartitionResult → List DeleteRecordsTopicResult
results_by_topic [] rows = []
results_by_topic (one ∷ shape) rows =
    record { name = one.name; partitions = take one.count rows } ∷ results_by_topic shape (drop one.count rows)

abbrev pub delete_reply : List DeleteRecordsTopicResult → Option (List ℕ)
delete_reply topics = Some (delete_records_reply.bytes (record { throttle_time_ms = pos 0; topics = topics }))

-- each row is made of its own question and of what its log says
abbrev pub delete_acts : Acts DeleteHand Target DeleteRecordsPartitionResult
delete_acts = record {
  part = λ hand q. PartDelete q.shard q.offset;
  row = λ hand q answer. delete_row q.index (delete_answer answer);
  next = λ hand q answer. hand;
  body = λ hand rows. delete_reply (results_by_topic hand.shape rows);
}

-- a request begins
abbrev pub delete_stage : List Topic → DeleteRecordsRequest → Stage (AskingParts DeleteHand Target DeleteRecordsPartitionResult)
delete_stage topics request = stage_of delete_acts (record { shape = map target_shape request.topics })
    (flat_map (target_entries topics) request.topics) []
