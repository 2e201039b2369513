-- Produce in hand (ProduceRequest.json and ProduceResponse.json): a batch for the log of each hosted partition, and a reply
-- with the topics and partitions of the request.
-- For example null records for a hosted partition have code 87 at once, and other bytes are asked of the partition's log (row_tests,
-- `five partitions, each of which fails for another reason`).
use Rattle.std.specs.Prelude.{ℕ, ℤ, pos, negsuc, Bool, Option, Some, None, List, [], ◌∷◌, map, flat_map, length, take, drop, slice_get, if◌then◌else◌}
use Rattle.flex_fields.specs.declared.version.Version.{Version}
use Rattle.share_model.specs.declared.delete.Placed.{Placed}
use Rattle.share_model.specs.declared.fault.Code.{Code}
use Rattle.share_model.specs.ErrorCodes.{NONE, UNKNOWN_TOPIC_OR_PARTITION, INVALID_RECORD, KAFKA_STORAGE_ERROR}
use Rattle.topic_conf.specs.declared.topic.Topic.{Topic}
use Rattle.topic_conf.specs.Topics.{place_by_name, shard_at}
use Rattle.msgs_base.specs.declared.produce_request.ProducePartition.{ProducePartition}
use Rattle.msgs_base.specs.declared.produce_request.ProduceTopic.{ProduceTopic}
use Rattle.msgs_base.specs.declared.produce_request.ProduceRequest.{ProduceRequest}
use Rattle.msgs_base.specs.declared.produce_reply.ProducePartitionReply.{ProducePartitionReply}
use Rattle.msgs_base.specs.declared.produce_reply.ProduceTopicReply.{ProduceTopicReply}
use Rattle.msgs_base.specs.ProduceReply.{produce_reply}
use Rattle.call_fold.specs.declared.part.Part.TheVariants.{Produce as PartProduce}
use Rattle.call_fold.specs.declared.part.Produced.{Produced}
use Rattle.call_fold.specs.declared.part.Produced.TheVariants.{Base, Batch, Store}
use Rattle.call_fold.specs.Parts.{log_answer}
use Rattle.call_fold.specs.declared.call.Entry.{Entry}
use Rattle.call_fold.specs.declared.call.Entry.TheVariants.{Known, Ask}
use Rattle.call_fold.specs.declared.call.Stage.{Stage}
use Rattle.call_fold.specs.Calls.{Acts, AskingParts}
use Rattle.call_fold.specs.Going.{stage_of}
use Rattle.log_calls.specs.declared.plan.Offer.{Offer}
use Rattle.log_calls.specs.declared.produce.ProduceHand.{ProduceHand}
use Rattle.log_calls.specs.Shapes.{NamedShapeParts}
use Rattle.log_calls.specs.Codes.{batch_code, wants_reply, request_refusal}

-- ---- the shard of a partition

abbrev pub id_of : Option Topic → Option (List ℕ)
id_of None = None
id_of (Some topic) = Some topic.id

abbrev pub id_at : List Topic → Option ℕ → Option (List ℕ)
id_at topics None = None
id_at topics (Some place) = id_of (slice_get topics place)

-- the id of the hosted topic of this name
abbrev pub id_named : List Topic → List ℕ → Option (List ℕ)
id_named topics name = id_at topics (place_by_name name topics)

abbrev pub shard_in : List Topic → Option (List ℕ) → ℤ → Option ℕ
shard_in topics None index = None
shard_in topics (Some id) index = shard_at id index topics

-- ---- what becomes of a partition's records

-- a code at once, or a batch for the log of this shard
pub data Fate : Type 0 where
  refuses : Code → Fate
  offers : ℕ → List ℕ → Fate

-- by the first that applies: the code of the whole request, 3 where the partition isn't hosted, 87 where the records are null
abbrev pub fate : Option Code → Option ℕ → Option (List ℕ) → Fate
fate (Some code) shard records = refuses code
fate None None records = refuses UNKNOWN_TOPIC_OR_PARTITION
fate None (Some shard) None = refuses INVALID_RECORD
fate None (Some shard) (Some batch) = offers shard batch

abbrev pub fate_of : List Topic → Option Code → List ℕ → ProducePartition → Fate
fate_of topics refusal name p = fate refusal (shard_in topics (id_named topics name) p.index) p.records

-- ---- what the reply says of a partition; no message is ever told, nor which records made a batch be refuses

abbrev pub code_row : ℤ → Code → ProducePartitionReply
code_row index code = record {
  index = index;
  error_code = code.0;
  base_offset = negsuc 0;
  log_append_time_ms = negsuc 0;
  log_start_offset = negsuc 0;
  record_errors = [];
  error_message = None;
}

abbrev pub base_row : ℤ → Placed → ProducePartitionReply
base_row index placed = record {
  index = index;
  error_code = NONE.0;
  base_offset = pos placed.base;
  log_append_time_ms = negsuc 0;
  log_start_offset = pos placed.start;
  record_errors = [];
  error_message = None;
}

abbrev pub log_row : ℤ → Produced → ProducePartitionReply
log_row index (Base placed) = base_row index placed
log_row index (Batch fault) = code_row index (batch_code fault)
log_row index (Store fault) = code_row index KAFKA_STORAGE_ERROR

-- ---- the call

abbrev pub entry_of : ℤ → Fate → Entry Offer ProducePartitionReply
entry_of index (refuses code) = Known (code_row index code)
entry_of index (offers shard batch) = Ask (record { index = index; shard = shard; batch = batch })

abbrev pub topic_entries : List Topic → Option Code → ProduceTopic → List (Entry Offer ProducePartitionReply)
topic_entries topics refusal t = map (λ p. entry_of p.index (fate_of topics refusal t.name p)) t.partition_data

abbrev pub shape_of : ProduceTopic → NamedShapeParts
shape_of t = record { name = t.name; count = length t.partition_data }

-- the rows under the topics of the request, in order
abbrev pub rows_by_topic : List NamedShapeParts → List ProducePartitionReply → List ProduceTopicReply
rows_by_topic [] rows = []
rows_by_topic (one ∷ shape) rows = record { name = one.name; partition_responses = take one.count rows } ∷ rows_by_topic shape (drop one.count rows)

-- in the version of the request
abbrev pub reply_of : Version → Bool → List ProduceTopicReply → Option (List ℕ)
reply_of version replies responses =
    if replies then Some ((produce_reply version).format.bytes (record { responses = responses; throttle_time_ms = pos 0 })) else None

-- each row is made of its own question and of what its log says
abbrev pub produce_acts : Acts ProduceHand Offer ProducePartitionReply
produce_acts = record {
  part = λ hand q. PartProduce q.shard q.batch;
  row = λ hand q answer. log_row q.index (log_answer answer);
  next = λ hand q answer. hand;
  body = λ hand rows. reply_of hand.version hand.replies (rows_by_topic hand.shape rows);
}

abbrev pub hand_of : Version → ProduceRequest → ProduceHand
hand_of version request = record { version = version; replies = wants_reply request.acks; shape = map shape_of request.topic_data }

-- a request of this version begins
abbrev pub produce_stage : Version → List Topic → ProduceRequest → Stage (AskingParts ProduceHand Offer ProducePartitionReply)
produce_stage version topics request =
    stage_of produce_acts (hand_of version request) (flat_map (topic_entries topics (request_refusal request.acks request.transactional_id)) request.topic_data) []
