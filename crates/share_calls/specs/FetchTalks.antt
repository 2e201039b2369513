-- What a ShareFetch asks and says, in words of its plan (KIP-932): the visits of the plan, each with the limits that the answers before
-- it leave, and a reply that tells each told partition by the answer to its own visit.
-- Worked example: a fetch of 500 records visits two partitions. Once the first has given the offsets 0 to 9, the second is asked for
-- 490 records, and the reply tells each by its own answer.
use Rattle.std.specs.Prelude.{◌≡◌, pos, ◌-◌, sum_by, nat_eq, ◌&&◌, Option, Some, None, List, [], ◌∷◌, ◌++◌, map, length, slice_get}
use Rattle.std.specs.List.{filter_map, list_all}
use Rattle.std.specs.Option.{option_map}
use Rattle.share_model.specs.ErrorCodes.{NONE}
use Rattle.share_model.specs.declared.visit.VisitAnswer.{VisitAnswer}
use Rattle.topic_conf.specs.Configs.{ConfigParts}
use Rattle.topic_conf.specs.declared.topic.Topic.{Topic}
use Rattle.msgs_share.specs.declared.share_fetch_request.ShareFetchRequest.{ShareFetchRequest}
use Rattle.call_fold.specs.declared.part.Part.{Part}
use Rattle.call_fold.specs.declared.part.Part.TheVariants.{Visit as PartVisit}
use Rattle.call_fold.specs.declared.part.PartAnswer.{PartAnswer}
use Rattle.call_fold.specs.declared.part.PartAnswer.TheVariants.{Visit}
use Rattle.call_fold.specs.Talks.{Talk, says, asks, talk_of, stage_talk, talk_reply}
use Rattle.share_session.specs.declared.step.PlanStep.{PlanStep}
use Rattle.share_session.specs.declared.change.SessionChange.{SessionChange}
use Rattle.share_session.specs.PlanParts.{PlanParts}
use Rattle.share_session.specs.Plans.{steps_of}
use Rattle.share_session.specs.SessionParts.{SessionParts}
use Rattle.share_calls.specs.declared.fetch.FetchHand.{FetchHand}
use Rattle.share_calls.specs.declared.fetch_rows.FetchRow.{FetchRow}
use Rattle.share_calls.specs.Fetch.{granted, then_of, row_for, unhosted, fetch_acts, fetch_body, fetch_hand, fetch_stage, fetch_begins}
use Rattle.share_calls.specs.Partitions.{partition_of}
use Rattle.share_calls.specs.Visits.{visit_of}
use Rattle.share_calls.specs.declared.wish.WaitWish.{WaitWish}
use Rattle.share_calls.specs.Wishes.{wish_of}

-- ---- the visits

-- the part that is asked once these answers have come
abbrev pub part_after : Talk → List PartAnswer → Option Part
part_after (says body) answers = None
part_after (asks part go) [] = Some part
part_after (asks part go) (answer ∷ answers) = part_after (go answer) answers

-- behind an answer nothing is waited for
abbrev pub wish_left : Option WaitWish → List VisitAnswer → Option WaitWish
wish_left wish [] = wish
wish_left wish (answer ∷ answers) = None

-- the limits less all offsets that were granted and all bytes of batches, and whether no batch was given yet
abbrev pub limits_left : FetchHand → List VisitAnswer → FetchHand
limits_left hand answers = record {
  lock_ms = hand.lock_ms;
  records = hand.records - sum_by (λ (a : VisitAnswer). granted a.grants) answers;
  bytes = hand.bytes - sum_by (λ (a : VisitAnswer). length a.batches) answers;
  first = hand.first && list_all (λ (a : VisitAnswer). nat_eq (length a.batches) 0) answers;
  wish = wish_left hand.wish answers;
}

-- the visit of a step, with these limits
abbrev pub visit_part : FetchHand → PlanStep → Part
visit_part limits step = PartVisit step.shard (visit_of step (then_of limits step.purpose))

-- ---- the reply, where each step stands beside the answer to its visit

abbrev pub Answered : Type 0
Answered = PlanStep × VisitAnswer

pub record PlanBeside : Type 0 where
  pub released : List Answered
  pub told : List Answered
  pub closed : List Answered

abbrev pub steps_in : List Answered → List PlanStep
steps_in xs = map (λ x. x.0) xs

abbrev pub answers_in : List Answered → List PartAnswer
answers_in xs = map (λ x. Visit x.1) xs

abbrev pub plan_in : PlanBeside → SessionChange → PlanParts
plan_in b change = record { released = steps_in b.released; told = steps_in b.told; closed = steps_in b.closed; change = change }

abbrev pub own_row : List Topic → Answered → Option FetchRow
own_row topics x = row_for x.0.purpose (partition_of topics x.0.shard) x.1

-- ---- the law

-- what a request asks and says as it is done
abbrev pub fetch_talk : ConfigParts → ShareFetchRequest → PlanParts → Talk
fetch_talk conf r plan = stage_talk (talk_of fetch_acts) (fetch_stage conf r plan)

-- the same by the sessions of its connection, where it may be refused
abbrev pub request_talk : ConfigParts → List SessionParts → ShareFetchRequest → Talk
request_talk conf sessions r = stage_talk (talk_of fetch_acts) (fetch_begins conf sessions r).stage

pub record TellsByItsVisit : Type 0 where
  -- once these answers have come, the next step of the plan is visited, with the limits that they leave
  pub visits : (conf : ConfigParts) (r : ShareFetchRequest) (plan : PlanParts) (answers : List VisitAnswer) →
      part_after (fetch_talk conf r plan) (map (λ a. Visit a) answers)
      ≡ option_map (visit_part (limits_left (fetch_hand conf r (wish_of r plan.told)) answers)) (slice_get (steps_of plan) (length answers))
  -- once all have come, the reply tells the partition of each told step by its own answer, and behind them those that aren't hosted
  pub tells : (conf : ConfigParts) (r : ShareFetchRequest) (beside : PlanBeside) (change : SessionChange) →
      talk_reply (fetch_talk conf r (plan_in beside change)) (answers_in beside.released ++ (answers_in beside.told ++ answers_in beside.closed))
      ≡ Some (Some (fetch_body (pos conf.lock_ms) NONE.0 (filter_map (own_row conf.topics) beside.told ++ unhosted conf.topics r)))
