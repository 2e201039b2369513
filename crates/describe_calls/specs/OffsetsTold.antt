-- What a ListOffsets means by its request (Kafka's message schemas, ListOffsetsRequest): the log of each hosted partition whose
-- timestamp stands for one of its ends is asked, in the order of the request, and the reply has its topics and partitions, in which
-- each partition has what its own log tells, or the code that is known at once. Answers belong to partitions by their place.
-- For example partition 0 by -2, one that isn't hosted and partition 0 by -1 ask twice, and have the start of the first answer, 3 and
-- the end of the second (layer_rows, `known codes stand between the answers of a ListOffsets`).
use Rattle.std.specs.Prelude.{◌≡◌, ℕ, Option, Some, None, List, [], ◌∷◌, map, flat_map}
use Rattle.share_model.specs.ErrorCodes.{UNKNOWN_TOPIC_OR_PARTITION, INVALID_REQUEST}
use Rattle.topic_conf.specs.declared.topic.Topic.{Topic}
use Rattle.msgs_admin.specs.declared.list_offsets_reply.FoundOffset.{FoundOffset}
use Rattle.msgs_admin.specs.declared.list_offsets_request.ListOffsetsPartition.{ListOffsetsPartition}
use Rattle.msgs_admin.specs.declared.named_topic.NamedTopic.{NamedTopic}
use Rattle.log_calls.specs.Produce.{id_named, shard_in}
use Rattle.describe_calls.specs.declared.offsets.End.{End}
use Rattle.describe_calls.specs.declared.offsets.LogEnds.{LogEnds}
use Rattle.describe_calls.specs.declared.offsets.OffsetAsk.{OffsetAsk}
use Rattle.describe_calls.specs.Filled.{filled, questions_of}
use Rattle.describe_calls.specs.Offsets.{end_asked, end_row, offset_entries, offset_row, offsets_by_topic, offsets_shape, refused_row}

abbrev pub shard_of : List Topic → List ℕ → ListOffsetsPartition → Option ℕ
shard_of topics name p = shard_in topics (id_named topics name) p.partition_index

-- ---- the questions

abbrev pub questions_by : ListOffsetsPartition → Option ℕ → Option End → List OffsetAsk
questions_by p None end = []
questions_by p (Some shard) None = []
questions_by p (Some shard) (Some end) = record { index = p.partition_index; shard = shard; end = end } ∷ []

abbrev pub questions_in : List Topic → NamedTopic ListOffsetsPartition → List OffsetAsk
questions_in topics t = flat_map (λ p. questions_by p (shard_of topics t.name p) (end_asked p.timestamp)) t.partitions

-- ---- the reply, where each partition stands beside what its log tells

-- the topic as it is asked
abbrev pub request_topic : NamedTopic (ListOffsetsPartition × LogEnds) → NamedTopic ListOffsetsPartition
request_topic t = record { name = t.name; partitions = map (λ x. x.0) t.partitions }

-- one that isn't asked has no answer
abbrev pub answers_by : Option ℕ → Option End → LogEnds → List LogEnds
answers_by None end ends = []
answers_by (Some shard) None ends = []
answers_by (Some shard) (Some end) ends = ends ∷ []

abbrev pub answers_in : List Topic → NamedTopic (ListOffsetsPartition × LogEnds) → List LogEnds
answers_in topics t = flat_map (λ x. answers_by (shard_of topics t.name x.0) (end_asked x.0.timestamp) x.1) t.partitions

abbrev pub own_row : ListOffsetsPartition → Option ℕ → Option End → LogEnds → FoundOffset
own_row p None end ends = refused_row p.partition_index UNKNOWN_TOPIC_OR_PARTITION
own_row p (Some shard) None ends = refused_row p.partition_index INVALID_REQUEST
own_row p (Some shard) (Some end) ends = end_row p.partition_index end ends

abbrev pub own_topic : List Topic → NamedTopic (ListOffsetsPartition × LogEnds) → NamedTopic FoundOffset
own_topic topics t = record {
  name = t.name;
  partitions = map (λ x. own_row x.0 (shard_of topics t.name x.0) (end_asked x.0.timestamp) x.1) t.partitions;
}

-- ---- the law

pub record TellsItsEnds : Type 0 where
  pub asks : (topics : List Topic) (request : List (NamedTopic ListOffsetsPartition)) →
      questions_of (flat_map (offset_entries topics) request) ≡ flat_map (questions_in topics) request
  -- once all answers have come, the reply tells each partition by its own
  pub says_own : (topics : List Topic) (told : List (NamedTopic (ListOffsetsPartition × LogEnds))) →
      offsets_by_topic (map offsets_shape (map request_topic told))
      (filled offset_row (flat_map (offset_entries topics) (map request_topic told)) (flat_map (answers_in topics) told))
      ≡ map (own_topic topics) told
