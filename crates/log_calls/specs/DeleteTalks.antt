-- What a DeleteRecords means by its request (DeleteRecordsRequest.json): a part for each hosted partition, in the order of
-- the request, and a reply with its topics and partitions, in which each partition has what its own log says, or 3 where it
-- isn't hosted. Answers belong to partitions by their place; one that is named twice is asked twice.
-- For example partition 0 below 1, one that isn't hosted and partition 0 below 2 ask twice, and have the first answer, 3
-- and the second (row_tests, `each partition of a request is answered by its own log, one that is not hosted by code 3,
-- and one that comes twice twice`).
use Rattle.std.specs.Prelude.{◌≡◌, ℕ, ℤ, suc, Option, Some, None, List, [], ◌∷◌, map, flat_map, take, length}
use Rattle.share_model.specs.ErrorCodes.{UNKNOWN_TOPIC_OR_PARTITION}
use Rattle.share_model.specs.declared.delete.DeleteAnswer.{DeleteAnswer}
use Rattle.topic_conf.specs.declared.topic.Topic.{Topic}
use Rattle.msgs_base.specs.declared.delete_records_request.DeleteRecordsPartition.{DeleteRecordsPartition}
use Rattle.msgs_base.specs.declared.delete_records_request.DeleteRecordsTopic.{DeleteRecordsTopic}
use Rattle.msgs_base.specs.declared.delete_records_request.DeleteRecordsRequest.{DeleteRecordsRequest}
use Rattle.msgs_base.specs.declared.delete_records_reply.DeleteRecordsPartitionResult.{DeleteRecordsPartitionResult}
use Rattle.msgs_base.specs.declared.delete_records_reply.DeleteRecordsTopicResult.{DeleteRecordsTopicResult}
use Rattle.call_fold.specs.declared.part.Part.{Part}
use Rattle.call_fold.specs.declared.part.Part.TheVariants.{Delete as PartDelete}
use Rattle.call_fold.specs.declared.part.PartAnswer.{PartAnswer}
use Rattle.call_fold.specs.declared.part.PartAnswer.TheVariants.{Delete}
use Rattle.call_fold.specs.Talks.{Talk, talk_of, stage_talk, talk_parts, talk_reply}
use Rattle.log_calls.specs.Delete.{delete_acts, delete_reply, delete_row, delete_stage, refused_row}
use Rattle.log_calls.specs.Produce.{id_named, shard_in}

-- ---- the parts

abbrev pub shard_of : List Topic → List ℕ → DeleteRecordsPartition → Option ℕ
shard_of topics name p = shard_in topics (id_named topics name) p.partition_index

abbrev pub parts_by : Option ℕ → ℤ → List Part
parts_by None to = []
parts_by (Some shard) to = PartDelete shard to ∷ []

abbrev pub parts_in : List Topic → DeleteRecordsTopic → List Part
parts_in topics t = flat_map (λ p. parts_by (shard_of topics t.name p) p.offset) t.partitions

-- a part for each partition that is hosted
abbrev pub parts_of : List Topic → DeleteRecordsRequest → List Part
parts_of topics request = flat_map (parts_in topics) request.topics

-- ---- the reply, where each partition stands beside what its log says

pub record TopicBeside : Type 0 where
  pub name : List ℕ
  pub partitions : List (DeleteRecordsPartition × DeleteAnswer)

-- the topic as it is asked
abbrev pub request_topic : TopicBeside → DeleteRecordsTopic
request_topic t = record { name = t.name; partitions = map (λ x. x.0) t.partitions }

-- one that isn't hosted has no answer
abbrev pub answers_by : Option ℕ → DeleteAnswer → List PartAnswer
answers_by None answer = []
answers_by (Some shard) answer = Delete answer ∷ []

abbrev pub answers_in : List Topic → TopicBeside → List PartAnswer
answers_in topics t = flat_map (λ x. answers_by (shard_of topics t.name x.0) x.1) t.partitions

abbrev pub own_row : ℤ → Option ℕ → DeleteAnswer → DeleteRecordsPartitionResult
own_row index None answer = refused_row index UNKNOWN_TOPIC_OR_PARTITION
own_row index (Some shard) answer = delete_row index answer

abbrev pub own_topic : List Topic → TopicBeside → DeleteRecordsTopicResult
own_topic topics t = record {
  name = t.name;
  partitions = map (λ x. own_row x.0.partition_index (shard_of topics t.name x.0) x.1) t.partitions;
}

-- ---- the law

-- what the request asks and says as it is done
abbrev pub delete_talk : List Topic → DeleteRecordsRequest → Talk
delete_talk topics request = stage_talk (talk_of delete_acts) (delete_stage topics request)

abbrev pub request_of : ℤ → List TopicBeside → DeleteRecordsRequest
request_of timeout told = record { topics = map request_topic told; timeout_ms = timeout }

pub record TellsItsStart : Type 0 where
  -- the parts are those of the hosted partitions, each asked once the answers to those before it have come
  pub asks : (topics : List Topic) (request : DeleteRecordsRequest) (answers : List PartAnswer) →
      talk_parts (delete_talk topics request) answers ≡ take (suc (length answers)) (parts_of topics request)
  -- once all answers have come, the reply tells each partition by its own
  pub says_own : (topics : List Topic) (timeout : ℤ) (told : List TopicBeside) →
      talk_reply (delete_talk topics (request_of timeout told)) (flat_map (answers_in topics) told)
      ≡ Some (delete_reply (map (own_topic topics) told))
