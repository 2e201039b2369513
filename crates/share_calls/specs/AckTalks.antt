-- What a ShareAcknowledge asks and says, in words of its request (KIP-932): a visit for each step of its plan, and a reply with the
-- topics and partitions of the request, each told by the answer to its own visit, or by its code where it isn't hosted.
-- Worked example: a request for the partitions 1 and 9 of a topic that has three visits 1 alone; its reply tells 1 by the answer, and 9
-- by code 3.
use Rattle.std.specs.Prelude.{◌≡◌, ℕ, ℤ, suc, Option, Some, None, List, [], ◌∷◌, ◌++◌, map, flat_map, take, length}
use Rattle.share_model.specs.ErrorCodes.{NONE}
use Rattle.share_model.specs.declared.fault.Code.{Code}
use Rattle.share_model.specs.declared.visit.VisitAnswer.{VisitAnswer}
use Rattle.topic_conf.specs.declared.topic.Topic.{Topic}
use Rattle.topic_conf.specs.Topics.{shard_at}
use Rattle.msgs_share.specs.declared.share_ack_reply.AcknowledgedPartition.{AcknowledgedPartition}
use Rattle.msgs_share.specs.declared.share_ack_request.ShareAckRequest.{ShareAckRequest}
use Rattle.msgs_share.specs.declared.share_topic.SharePartition.{SharePartition}
use Rattle.msgs_share.specs.declared.share_topic.ShareTopic.{ShareTopic}
use Rattle.call_fold.specs.declared.part.Part.{Part}
use Rattle.call_fold.specs.declared.part.Part.TheVariants.{Visit as PartVisit}
use Rattle.call_fold.specs.declared.part.PartAnswer.{PartAnswer}
use Rattle.call_fold.specs.declared.part.PartAnswer.TheVariants.{Visit}
use Rattle.call_fold.specs.Talks.{Talk, talk_of, stage_talk, talk_parts, talk_reply}
use Rattle.share_session.specs.declared.step.PlanStep.{PlanStep}
use Rattle.share_session.specs.Plans.{ack_plan, ack_refusal, steps_of}
use Rattle.share_session.specs.SessionParts.{SessionParts}
use Rattle.share_calls.specs.Acknowledge.{acknowledged, ack_then, ack_acts, ack_body, ack_begins}
use Rattle.share_calls.specs.Codes.{ack_code, unhosted_code}
use Rattle.share_calls.specs.Visits.{visit_of}

-- the visit of a step
abbrev pub step_part : PlanStep → Part
step_part step = PartVisit step.shard (visit_of step (ack_then step.purpose))

-- ---- the reply, where each partition stands beside the answer to its visit

pub record AckTopicBeside : Type 0 where
  pub topic_id : List ℕ
  pub partitions : List (SharePartition × VisitAnswer)

-- the topic as it is asked
abbrev pub request_topic : AckTopicBeside → ShareTopic SharePartition
request_topic t = record { topic_id = t.topic_id; partitions = map (λ x. x.0) t.partitions }

-- a partition that isn't hosted has no answer
abbrev pub answers_unless : Option ℕ → VisitAnswer → List PartAnswer
answers_unless None answer = []
answers_unless (Some shard) answer = Visit answer ∷ []

abbrev pub shard_of : List Topic → List ℕ → SharePartition → Option ℕ
shard_of topics id p = shard_at id p.partition_index topics

abbrev pub ack_answers : List Topic → AckTopicBeside → List PartAnswer
ack_answers topics t = flat_map (λ x. answers_unless (shard_of topics t.topic_id x.0) x.1) t.partitions

abbrev pub own_code : Option ℕ → Code → VisitAnswer → Code
own_code None code answer = code
own_code (Some shard) code answer = ack_code answer.ack

abbrev pub own_ack : List Topic → List ℕ → SharePartition × VisitAnswer → AcknowledgedPartition
own_ack topics id x = acknowledged x.0.partition_index (own_code (shard_of topics id x.0) (unhosted_code topics id) x.1)

abbrev pub own_topic : List Topic → AckTopicBeside → ShareTopic AcknowledgedPartition
own_topic topics t = record { topic_id = t.topic_id; partitions = map (own_ack topics t.topic_id) t.partitions }

-- ---- the law

-- what a request asks and says as it is done
abbrev pub ack_talk : List Topic → List SessionParts → ShareAckRequest → Talk
ack_talk topics sessions r = stage_talk (talk_of ack_acts) (ack_begins topics sessions r).stage

abbrev pub ack_request : Option (List ℕ) → Option (List ℕ) → ℤ → List AckTopicBeside → ShareAckRequest
ack_request group member epoch told = record { group_id = group; member_id = member; share_session_epoch = epoch; topics = map request_topic told }

pub record TellsByItsAck : Type 0 where
  -- the parts are the visits of the plan, each asked once the answers to those before it have come
  pub visits : (topics : List Topic) (sessions : List SessionParts) (r : ShareAckRequest) (answers : List PartAnswer) →
      ack_refusal sessions r ≡ None →
      talk_parts (ack_talk topics sessions r) answers ≡ take (suc (length answers)) (map step_part (steps_of (ack_plan sessions topics r)))
  -- once all have come, the reply tells each partition of the request by its own, whatever is answered to the releases behind them
  pub tells : (topics : List Topic) (sessions : List SessionParts) (group member : Option (List ℕ)) (epoch : ℤ) (told : List AckTopicBeside)
      (closed : List VisitAnswer) → ack_refusal sessions (ack_request group member epoch told) ≡ None →
      length closed ≡ length (ack_plan sessions topics (ack_request group member epoch told)).closed →
      talk_reply (ack_talk topics sessions (ack_request group member epoch told)) (flat_map (ack_answers topics) told ++ map (λ a. Visit a) closed)
      ≡ Some (Some (ack_body NONE.0 (map (own_topic topics) told)))
