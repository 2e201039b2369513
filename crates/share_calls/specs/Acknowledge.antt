-- ShareAcknowledge in hand (KIP-932, ShareAcknowledgeRequest.json and ShareAcknowledgeResponse.json of version 1): a visit for each
-- hosted partition, in the order of the request, a row at once for each other one, and behind them releases that aren't told. The
-- reply has the topics and partitions of the request.
-- Worked example: a request for the partitions 1, 9 and 0 of a topic that has three visits 1 and then 0; its reply has three rows, the
-- second with code 3.
use Rattle.std.specs.Prelude.{ℕ, ℤ, pos, Option, Some, None, List, [], ◌∷◌, ◌++◌, map, length, take, drop}
use Rattle.std.specs.List.{cons_option}
use Rattle.std.specs.Option.{option_map}
use Rattle.share_model.specs.ErrorCodes.{NONE}
use Rattle.share_model.specs.declared.fault.Code.{Code}
use Rattle.share_model.specs.declared.visit.Then.{Then}
use Rattle.share_model.specs.declared.visit.Then.TheVariants.{Nothing as ThenNothing, Release as ThenRelease}
use Rattle.share_model.specs.declared.visit.VisitAnswer.{VisitAnswer}
use Rattle.topic_conf.specs.declared.topic.Topic.{Topic}
use Rattle.topic_conf.specs.Topics.{shard_at}
use Rattle.msgs_share.specs.declared.share_ack_reply.AcknowledgedPartition.{AcknowledgedPartition}
use Rattle.msgs_share.specs.declared.share_ack_request.ShareAckRequest.{ShareAckRequest}
use Rattle.msgs_share.specs.declared.share_topic.SharePartition.{SharePartition}
use Rattle.msgs_share.specs.declared.share_topic.ShareTopic.{ShareTopic}
use Rattle.msgs_share.specs.ShareAckReply.{share_ack_reply}
use Rattle.call_fold.specs.declared.part.Part.TheVariants.{Visit as PartVisit}
use Rattle.call_fold.specs.Parts.{visit_answer}
use Rattle.call_fold.specs.declared.call.Entry.{Entry}
use Rattle.call_fold.specs.declared.call.Entry.TheVariants.{Known, Ask}
use Rattle.call_fold.specs.declared.call.Stage.{Stage}
use Rattle.call_fold.specs.declared.call.Stage.TheVariants.{Says}
use Rattle.call_fold.specs.Calls.{Acts, AskingParts}
use Rattle.call_fold.specs.Going.{stage_of}
use Rattle.share_session.specs.declared.step.PlanStep.{PlanStep}
use Rattle.share_session.specs.declared.step.Purpose.{Purpose}
use Rattle.share_session.specs.declared.step.Purpose.TheVariants.{Nothing, Release, Fetch}
use Rattle.share_session.specs.declared.fault.SessionFault.{SessionFault}
use Rattle.share_session.specs.declared.change.SessionChange.{SessionChange}
use Rattle.share_session.specs.PlanParts.{PlanParts}
use Rattle.share_session.specs.Plans.{ack_plan, ack_refusal}
use Rattle.share_session.specs.Refusals.{code_of}
use Rattle.share_session.specs.SessionParts.{SessionParts}
use Rattle.share_session.specs.Requests.{entries}
use Rattle.share_calls.specs.declared.partition.PartitionId.{PartitionId}
use Rattle.share_calls.specs.declared.visiting.Visiting.{Visiting}
use Rattle.share_calls.specs.declared.acknowledge.AckHand.{AckHand}
use Rattle.share_calls.specs.Codes.{ack_code, unhosted_code}
use Rattle.share_calls.specs.FetchedRows.{leader}
use Rattle.share_calls.specs.Shapes.{TopicShapeParts}
use Rattle.share_calls.specs.Visits.{visit_of, untold, told_rows}

-- ---- what the reply tells of a partition

abbrev pub acknowledged : ℤ → Code → AcknowledgedPartition
acknowledged index code = record { partition_index = index; error_code = code.0; error_message = None; current_leader = leader }

abbrev pub ack_row : VisitAnswer → PartitionId → AcknowledgedPartition
ack_row answer id = acknowledged id.index (ack_code answer.ack)

-- ---- the entries

abbrev pub AckEntry : Type 0
AckEntry = Entry Visiting (Option AcknowledgedPartition)

abbrev pub id_of : List ℕ × SharePartition → PartitionId
id_of e = record { topic_id = e.0; index = e.1.partition_index }

-- a partition that isn't hosted has its row at once, and a hosted one the next visit
abbrev pub next_entry : Option ℕ → Code → PartitionId → List PlanStep → Option AckEntry
next_entry None code id steps = Some (Known (Some (acknowledged id.index code)))
next_entry (Some shard) code id [] = None
next_entry (Some shard) code id (step ∷ steps) = Some (Ask (record { step = step; told = Some id }))

abbrev pub entry_at : List Topic → List PlanStep → List ℕ × SharePartition → Option AckEntry
entry_at topics steps e = next_entry (shard_at e.0 e.1.partition_index topics) (unhosted_code topics e.0) (id_of e) steps

-- the visits behind it
abbrev pub steps_behind : Option ℕ → List PlanStep → List PlanStep
steps_behind None steps = steps
steps_behind (Some shard) steps = drop 1 steps

abbrev pub steps_at : List Topic → List PlanStep → List ℕ × SharePartition → List PlanStep
steps_at topics steps e = steps_behind (shard_at e.0 e.1.partition_index topics) steps

-- the partitions of the request, each with its row or its visit
abbrev pub placed : List Topic → List PlanStep → List (List ℕ × SharePartition) → List AckEntry
placed topics steps [] = []
placed topics steps (e ∷ es) = cons_option (entry_at topics steps e) (placed topics (steps_at topics steps e) es)

-- the visits behind all of them
abbrev pub steps_left : List Topic → List PlanStep → List (List ℕ × SharePartition) → List PlanStep
steps_left topics steps [] = steps
steps_left topics steps (e ∷ es) = steps_left topics (steps_at topics steps e) es

-- ---- the call

-- an acknowledgement fetches nothing
abbrev pub ack_then : Purpose → Then
ack_then Nothing = ThenNothing
ack_then Release = ThenRelease
ack_then Fetch = ThenNothing

abbrev pub shape_of : ShareTopic SharePartition → TopicShapeParts
shape_of t = record { topic_id = t.topic_id; count = length t.partitions }

-- the rows under the topics of the request, in order
abbrev pub rows_by_topic : List TopicShapeParts → List AcknowledgedPartition → List (ShareTopic AcknowledgedPartition)
rows_by_topic [] rows = []
rows_by_topic (one ∷ shape) rows = record { topic_id = one.topic_id; partitions = take one.count rows } ∷ rows_by_topic shape (drop one.count rows)

abbrev pub ack_body : ℤ → List (ShareTopic AcknowledgedPartition) → List ℕ
ack_body code responses = share_ack_reply.bytes (record {
  throttle_time_ms = pos 0;
  error_code = code;
  error_message = None;
  responses = responses;
  node_endpoints = [];
})

abbrev pub ack_acts : Acts AckHand Visiting (Option AcknowledgedPartition)
ack_acts = record {
  part = λ hand q. PartVisit q.step.shard (visit_of q.step (ack_then q.step.purpose));
  row = λ hand q answer. option_map (ack_row (visit_answer answer)) q.told;
  next = λ hand q answer. hand;
  body = λ hand rows. Some (ack_body NONE.0 (rows_by_topic hand.shape (told_rows rows)));
}

abbrev pub ack_entries : List Topic → ShareAckRequest → PlanParts → List AckEntry
ack_entries topics r plan = placed topics plan.told (entries r.topics) ++ map untold plan.closed

abbrev pub ack_hand : ShareAckRequest → AckHand
ack_hand r = record { shape = map shape_of r.topics }

-- a request that isn't refused begins
abbrev pub ack_stage : List Topic → ShareAckRequest → PlanParts → Stage (AskingParts AckHand Visiting (Option AcknowledgedPartition))
ack_stage topics r plan = stage_of ack_acts (ack_hand r) (ack_entries topics r plan) []

-- ---- with what a request begins

-- the stage of a request, and what becomes of its session
pub record AckBegun : Type 0 where
  pub stage : Stage (AskingParts AckHand Visiting (Option AcknowledgedPartition))
  pub change : Option SessionChange

abbrev pub ack_begun : List Topic → ShareAckRequest → PlanParts → AckBegun
ack_begun topics r plan = record { stage = ack_stage topics r plan; change = Some plan.change }

-- a request that is refused tells its code, and no topic
abbrev pub ack_refused : Option Code → AckBegun
ack_refused None = record { stage = Says None; change = None }
ack_refused (Some code) = record { stage = Says (Some (ack_body code.0 [])); change = None }

abbrev pub ack_begins_by : List Topic → List SessionParts → ShareAckRequest → Option SessionFault → AckBegun
ack_begins_by topics sessions r None = ack_begun topics r (ack_plan sessions topics r)
ack_begins_by topics sessions r (Some fault) = ack_refused (code_of fault)

abbrev pub ack_begins : List Topic → List SessionParts → ShareAckRequest → AckBegun
ack_begins topics sessions r = ack_begins_by topics sessions r (ack_refusal sessions r)
