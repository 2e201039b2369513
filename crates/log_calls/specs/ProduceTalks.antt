-- What a Produce means by its request (ProduceRequest.json): a part for each partition whose records go to a log, in the order of the
-- request, and a reply with its topics and partitions, in which each partition has what its own log says, or the code that is known at
-- once. Answers belong to partitions by their place. Where no acknowledgement is wanted there is no reply.
-- For example a batch for partition 0, null records and a batch for partition 1 ask 0 and 1, and have the first answer, 87 and the second
-- (row_tests, `each answer stands at its own partition, with known codes between them`).
use Rattle.std.specs.Prelude.{◌≡◌, ℕ, ℤ, suc, Option, Some, List, [], ◌∷◌, map, flat_map, take, length}
use Rattle.flex_fields.specs.declared.version.Version.{Version}
use Rattle.share_model.specs.declared.fault.Code.{Code}
use Rattle.topic_conf.specs.declared.topic.Topic.{Topic}
use Rattle.msgs_base.specs.declared.produce_request.ProducePartition.{ProducePartition}
use Rattle.msgs_base.specs.declared.produce_request.ProduceTopic.{ProduceTopic}
use Rattle.msgs_base.specs.declared.produce_request.ProduceRequest.{ProduceRequest}
use Rattle.msgs_base.specs.declared.produce_reply.ProducePartitionReply.{ProducePartitionReply}
use Rattle.msgs_base.specs.declared.produce_reply.ProduceTopicReply.{ProduceTopicReply}
use Rattle.call_fold.specs.declared.part.Part.{Part}
use Rattle.call_fold.specs.declared.part.Part.TheVariants.{Produce as PartProduce}
use Rattle.call_fold.specs.declared.part.Produced.{Produced}
use Rattle.call_fold.specs.declared.part.PartAnswer.{PartAnswer}
use Rattle.call_fold.specs.declared.part.PartAnswer.TheVariants.{Produce}
use Rattle.call_fold.specs.Talks.{Talk, talk_of, stage_talk, talk_parts, talk_reply}
use Rattle.log_calls.specs.Codes.{wants_reply, request_refusal}
use Rattle.log_calls.specs.Produce.{Fate, refuses, offers, fate_of, code_row, log_row, reply_of, produce_acts, produce_stage}

-- ---- the parts

abbrev pub parts_by : Fate → List Part
parts_by (refuses code) = []
parts_by (offers shard batch) = PartProduce shard batch ∷ []

abbrev pub parts_in : List Topic → Option Code → ProduceTopic → List Part
parts_in topics refusal t = flat_map (λ p. parts_by (fate_of topics refusal t.name p)) t.partition_data

-- a part for each partition whose records go to a log
abbrev pub parts_of : List Topic → ProduceRequest → List Part
parts_of topics request = flat_map (parts_in topics (request_refusal request.acks request.transactional_id)) request.topic_data

-- ---- the reply, where each partition stands beside what its log says

pub record TopicBeside : Type 0 where
  pub name : List ℕ
  pub partitions : List (ProducePartition × Produced)

-- the topic as it is asked
abbrev pub request_topic : TopicBeside → ProduceTopic
request_topic t = record { name = t.name; partition_data = map (λ x. x.0) t.partitions }

-- a partition that is refused at once has no answer
abbrev pub answers_by : Fate → Produced → List PartAnswer
answers_by (refuses code) produced = []
answers_by (offers shard batch) produced = Produce produced ∷ []

abbrev pub answers_in : List Topic → Option Code → TopicBeside → List PartAnswer
answers_in topics refusal t = flat_map (λ x. answers_by (fate_of topics refusal t.name x.0) x.1) t.partitions

abbrev pub own_row : ℤ → Fate → Produced → ProducePartitionReply
own_row index (refuses code) produced = code_row index code
own_row index (offers shard batch) produced = log_row index produced

abbrev pub own_topic : List Topic → Option Code → TopicBeside → ProduceTopicReply
own_topic topics refusal t = record {
  name = t.name;
  partition_responses = map (λ x. own_row x.0.index (fate_of topics refusal t.name x.0) x.1) t.partitions;
}

-- ---- the law

-- what the request asks and says as it is done
abbrev pub produce_talk : Version → List Topic → ProduceRequest → Talk
produce_talk version topics request = stage_talk (talk_of produce_acts) (produce_stage version topics request)

abbrev pub request_of : Option (List ℕ) → ℤ → ℤ → List TopicBeside → ProduceRequest
request_of transaction acks timeout told = record {
  transactional_id = transaction;
  acks = acks;
  timeout_ms = timeout;
  topic_data = map request_topic told;
}

pub record TellsByItsLog : Type 0 where
  -- the parts are those of the partitions, each asked once the answers to those before it have come
  pub asks : (version : Version) (topics : List Topic) (request : ProduceRequest) (answers : List PartAnswer) →
      talk_parts (produce_talk version topics request) answers ≡ take (suc (length answers)) (parts_of topics request)
  -- once all answers have come, the reply tells each partition by its own, or there is none
  pub says_own : (version : Version) (topics : List Topic) (transaction : Option (List ℕ)) (acks timeout : ℤ) (told : List TopicBeside) →
      talk_reply (produce_talk version topics (request_of transaction acks timeout told)) (flat_map (answers_in topics (request_refusal acks transaction)) told)
      ≡ Some (reply_of version (wants_reply acks) (map (own_topic topics (request_refusal acks transaction)) told))
