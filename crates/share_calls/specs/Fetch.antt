-- ShareFetch in hand (KIP-932, ShareFetchRequest.json and ShareFetchResponse.json of version 1): the visits of its plan, each with the
-- limits that those before it left, and a reply that tells the visited partitions in their order, and behind them those that aren't
-- hosted.
-- Worked example: a fetch of 3 records visits two partitions. The first gives the offsets 0 and 1 in a batch of 80 bytes: the second is
-- asked for 1 record, in 80 bytes fewer, and none of its batches is the first of the reply.
use Rattle.std.specs.Prelude.{ℕ, ℤ, pos, negsuc, ◌+◌, ◌-◌, min, sum_by, nat_eq, true, ◌&&◌, if◌then◌else◌}
use Rattle.std.specs.Prelude.{Option, Some, None, List, [], ◌++◌, map, length}
use Rattle.std.specs.List.{filter_map}
use Rattle.std.specs.Option.{option_map}
use Rattle.share_model.specs.declared.fault.Code.{Code}
use Rattle.share_model.specs.ErrorCodes.{NONE}
use Rattle.share_model.specs.declared.hold.Grant.{Grant}
use Rattle.share_model.specs.declared.visit.Then.{Then}
use Rattle.share_model.specs.declared.visit.Then.TheVariants.{Nothing as ThenNothing, Release as ThenRelease, Fetch as ThenFetch}
use Rattle.share_model.specs.declared.visit.VisitAnswer.{VisitAnswer}
use Rattle.topic_conf.specs.Configs.{ConfigParts}
use Rattle.topic_conf.specs.declared.topic.Topic.{Topic}
use Rattle.topic_conf.specs.Topics.{shard_at}
use Rattle.msgs_share.specs.declared.share_fetch_reply.AcquiredRecords.{AcquiredRecords}
use Rattle.msgs_share.specs.declared.share_fetch_reply.FetchedPartition.{FetchedPartition}
use Rattle.msgs_share.specs.declared.share_fetch_request.ShareFetchRequest.{ShareFetchRequest}
use Rattle.msgs_share.specs.declared.share_topic.SharePartition.{SharePartition}
use Rattle.msgs_share.specs.declared.share_topic.ShareTopic.{ShareTopic}
use Rattle.msgs_share.specs.ShareFetchReply.{share_fetch_reply}
use Rattle.call_fold.specs.declared.part.Part.TheVariants.{Visit as PartVisit}
use Rattle.call_fold.specs.Parts.{visit_answer}
use Rattle.call_fold.specs.declared.call.Entry.{Entry}
use Rattle.call_fold.specs.declared.call.Entry.TheVariants.{Known, Ask}
use Rattle.call_fold.specs.declared.call.Stage.{Stage}
use Rattle.call_fold.specs.declared.call.Stage.TheVariants.{Says}
use Rattle.call_fold.specs.Calls.{Acts, AskingParts}
use Rattle.call_fold.specs.Going.{stage_of}
use Rattle.share_session.specs.declared.step.PlanStep.{PlanStep}
use Rattle.share_session.specs.declared.step.Purpose.{Purpose}
use Rattle.share_session.specs.declared.step.Purpose.TheVariants.{Nothing, Release, Fetch}
use Rattle.share_session.specs.declared.fault.SessionFault.{SessionFault}
use Rattle.share_session.specs.declared.change.SessionChange.{SessionChange}
use Rattle.share_session.specs.PlanParts.{PlanParts}
use Rattle.share_session.specs.Plans.{fetch_plan, fetch_refusal}
use Rattle.share_session.specs.Refusals.{code_of}
use Rattle.share_session.specs.SessionParts.{SessionParts}
use Rattle.share_session.specs.Requests.{entries}
use Rattle.share_calls.specs.declared.partition.PartitionId.{PartitionId}
use Rattle.share_calls.specs.declared.visiting.Visiting.{Visiting}
use Rattle.share_calls.specs.declared.fetch.FetchHand.{FetchHand}
use Rattle.share_calls.specs.declared.fetch_rows.FetchRow.{FetchRow}
use Rattle.share_calls.specs.Codes.{ack_code, fetch_code, unhosted_code}
use Rattle.share_calls.specs.FetchedRows.{leader}
use Rattle.share_calls.specs.Partitions.{partition_of}
use Rattle.share_calls.specs.Rows.{grouped, topics_of}
use Rattle.share_calls.specs.Visits.{visit_of, untold, told_rows}
use Rattle.share_calls.specs.declared.wish.WaitWish.{WaitWish}
use Rattle.share_calls.specs.Wishes.{wish_of}

-- ---- the limits of a reply

abbrev pub at_least_0 : ℤ → ℕ
at_least_0 (pos n) = n
at_least_0 (negsuc n) = 0

-- a reply has at most 16 MiB, but for its first batch
abbrev pub most_bytes : ℕ
most_bytes = 16777216

-- how many offsets are granted
abbrev pub offsets : Grant → ℕ
offsets g = (g.last + 1) - g.first

abbrev pub granted : List Grant → ℕ
granted grants = sum_by offsets grants

-- for what it waits before its first visit, if it waits
abbrev pub waits_for : FetchHand → Option WaitWish
waits_for hand = hand.wish

-- what an answer leaves to the visits behind it; it has waited then
abbrev pub hand_after : FetchHand → VisitAnswer → FetchHand
hand_after hand answer = record {
  lock_ms = hand.lock_ms;
  records = hand.records - granted answer.grants;
  bytes = hand.bytes - length answer.batches;
  first = hand.first && nat_eq (length answer.batches) 0;
  wish = None;
}

-- ---- a visit

abbrev pub then_of : FetchHand → Purpose → Then
then_of hand Nothing = ThenNothing
then_of hand Release = ThenRelease
then_of hand Fetch = ThenFetch hand.records hand.bytes hand.first

-- ---- what the reply tells of a partition; no message is ever told

abbrev pub acquired : Grant → AcquiredRecords
acquired g = record { first_offset = pos g.first; last_offset = pos g.last; delivery_count = pos g.count }

abbrev pub fetched : ℤ → Code → Code → List ℕ → List Grant → FetchedPartition
fetched index code ack batches grants = record {
  partition_index = index;
  error_code = code.0;
  error_message = None;
  acknowledge_error_code = ack.0;
  acknowledge_error_message = None;
  current_leader = leader;
  records = Some batches;
  acquired_records = map acquired grants;
}

abbrev pub fetch_row : Purpose → VisitAnswer → PartitionId → FetchRow
fetch_row purpose answer id = record {
  topic_id = id.topic_id;
  partition = fetched id.index (fetch_code purpose answer.«then») (ack_code answer.ack) answer.batches answer.grants;
}

-- a partition that isn't hosted; its code stands for its acknowledgements too, where there are some
abbrev pub unhosted_row : Code → List ℕ × SharePartition → FetchRow
unhosted_row code e = record {
  topic_id = e.0;
  partition = fetched e.1.partition_index code (if nat_eq (length e.1.acknowledgement_batches) 0 then NONE else code) [] [];
}

abbrev pub row_unless : Option ℕ → FetchRow → Option FetchRow
row_unless None row = Some row
row_unless (Some shard) row = None

abbrev pub unhosted_of : List Topic → List ℕ × SharePartition → Option FetchRow
unhosted_of topics e = row_unless (shard_at e.0 e.1.partition_index topics) (unhosted_row (unhosted_code topics e.0) e)

-- the partitions of the request that aren't hosted, in its order
abbrev pub unhosted : List Topic → ShareFetchRequest → List FetchRow
unhosted topics r = filter_map (unhosted_of topics) (entries r.topics)

-- ---- the call

-- an answer that isn't told has no row
abbrev pub row_for : Purpose → Option PartitionId → VisitAnswer → Option FetchRow
row_for purpose told answer = option_map (fetch_row purpose answer) told

abbrev pub row_of_topic : FetchRow → List ℕ × FetchedPartition
row_of_topic row = (row.topic_id, row.partition)

abbrev pub fetch_reply : ℤ → ℤ → List (ShareTopic FetchedPartition) → List ℕ
fetch_reply lock_ms code responses = share_fetch_reply.bytes (record {
  throttle_time_ms = pos 0;
  error_code = code;
  error_message = None;
  acquisition_lock_timeout_ms = lock_ms;
  responses = responses;
  node_endpoints = [];
})

abbrev pub fetch_body : ℤ → ℤ → List FetchRow → List ℕ
fetch_body lock_ms code rows = fetch_reply lock_ms code (topics_of (grouped (map row_of_topic rows)))

abbrev pub fetch_acts : Acts FetchHand Visiting (Option FetchRow)
fetch_acts = record {
  part = λ hand q. PartVisit q.step.shard (visit_of q.step (then_of hand q.step.purpose));
  row = λ hand q answer. row_for q.step.purpose q.told (visit_answer answer);
  next = λ hand q answer. hand_after hand (visit_answer answer);
  body = λ hand rows. Some (fetch_body hand.lock_ms NONE.0 (told_rows rows));
}

abbrev pub told : List Topic → PlanStep → Entry Visiting (Option FetchRow)
told topics step = Ask (record { step = step; told = partition_of topics step.shard })

abbrev pub known : FetchRow → Entry Visiting (Option FetchRow)
known row = Known (Some row)

-- the visits of the plan, and then what is known at once
abbrev pub fetch_entries : List Topic → ShareFetchRequest → PlanParts → List (Entry Visiting (Option FetchRow))
fetch_entries topics r plan =
    map untold plan.released ++ (map (told topics) plan.told ++ (map untold plan.closed ++ map known (unhosted topics r)))

abbrev pub fetch_hand : ConfigParts → ShareFetchRequest → Option WaitWish → FetchHand
fetch_hand conf r wish = record {
  lock_ms = pos conf.lock_ms;
  records = at_least_0 r.max_records;
  bytes = min (at_least_0 r.max_bytes) most_bytes;
  first = true;
  wish = wish;
}

-- a request that isn't refused begins
abbrev pub fetch_stage : ConfigParts → ShareFetchRequest → PlanParts → Stage (AskingParts FetchHand Visiting (Option FetchRow))
fetch_stage conf r plan = stage_of fetch_acts (fetch_hand conf r (wish_of r plan.told)) (fetch_entries conf.topics r plan) []

-- ---- with what a request begins

-- the stage of a request, and what becomes of its session
pub record Begun : Type 0 where
  pub stage : Stage (AskingParts FetchHand Visiting (Option FetchRow))
  pub change : Option SessionChange

abbrev pub begun_with : ConfigParts → ShareFetchRequest → PlanParts → Begun
begun_with conf r plan = record { stage = fetch_stage conf r plan; change = Some plan.change }

-- a request that is refused tells its code, and no partition
abbrev pub refused_with : ConfigParts → Option Code → Begun
refused_with conf None = record { stage = Says None; change = None }
refused_with conf (Some code) = record { stage = Says (Some (fetch_body (pos conf.lock_ms) code.0 [])); change = None }

abbrev pub fetch_begins_by : ConfigParts → List SessionParts → ShareFetchRequest → Option SessionFault → Begun
fetch_begins_by conf sessions r None = begun_with conf r (fetch_plan sessions conf.topics r)
fetch_begins_by conf sessions r (Some fault) = refused_with conf (code_of fault)

abbrev pub fetch_begins : ConfigParts → List SessionParts → ShareFetchRequest → Begun
fetch_begins conf sessions r = fetch_begins_by conf sessions r (fetch_refusal sessions r)
