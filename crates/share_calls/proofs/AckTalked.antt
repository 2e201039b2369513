-- Each partition of a ShareAcknowledge is told by its own visit.
use Rattle.std.proofs.Common.{◌≡◌, ◌∙◌, ℕ, ℤ, pos, suc, Bool, true, false, cond, Option, Some, None, List, [], ◌∷◌, ◌++◌, length, map, take, drop}
use Rattle.std.proofs.Common.{refl, sym, ap, arith, append_assoc, append-nil}
use Rattle.std.specs.List.{filter_map, flat_map, cons_option}
use Rattle.std.specs.Option.{option_map}
use Rattle.std.proofs.lemmas.List.{map-append, length-map}
use Rattle.std.proofs.lemmas.Grind.{flat_map-append}
use Rattle.share_model.specs.declared.ack.AckBatch.{AckBatch}
use Rattle.share_model.specs.declared.visit.VisitAnswer.{VisitAnswer}
use Rattle.topic_conf.specs.declared.topic.Topic.{Topic}
use Rattle.msgs_share.specs.declared.share_ack_reply.AcknowledgedPartition.{AcknowledgedPartition}
use Rattle.msgs_share.specs.declared.share_ack_request.ShareAckRequest.{ShareAckRequest}
use Rattle.msgs_share.specs.declared.share_topic.SharePartition.{SharePartition}
use Rattle.call_fold.specs.declared.part.Part.{Part}
use Rattle.call_fold.specs.declared.part.PartAnswer.{PartAnswer}
use Rattle.call_fold.specs.declared.part.PartAnswer.TheVariants.{Visit}
use Rattle.call_fold.specs.declared.call.Entry.TheVariants.{Known, Ask}
use Rattle.call_fold.specs.Talks.{talk, talk_of, stage_talk, talk_parts, talk_reply, questions, parts, entry_rows, last_call}
use Rattle.call_fold.proofs.Talked.{means_entries, asks_all, says_all}
use Rattle.call_fold.proofs.Grouped.{took, left_over, part_list}
use Rattle.share_session.specs.declared.session.Session.{Session}
use Rattle.share_session.specs.declared.step.Caller.{Caller}
use Rattle.share_session.specs.declared.step.PlanStep.{PlanStep}
use Rattle.share_session.specs.PlanParts.{PlanParts}
use Rattle.share_session.specs.Plans.{ack_plan, ack_by_epoch, acknowledging, closing, caller_of}
use Rattle.share_session.specs.Refusals.{closes}
use Rattle.share_session.specs.Requests.{text_of, ack_batch, wanted_of, wanted_in, entries}
use Rattle.share_session.specs.SessionParts.{SessionParts}
use Rattle.share_session.specs.Sessions.{session_of}
use Rattle.share_calls.specs.declared.acknowledge.AckHand.{AckHand}
use Rattle.share_calls.specs.declared.visiting.Visiting.{Visiting}
use Rattle.share_calls.specs.Acknowledge.{AckEntry, acknowledged, id_of, next_entry, steps_behind, placed, shape_of, rows_by_topic, ack_body}
use Rattle.share_calls.specs.Acknowledge.{ack_acts, ack_entries, ack_hand, ack_begins_by}
use Rattle.share_calls.specs.Codes.{ack_code, unhosted_code}
use Rattle.share_calls.specs.Visits.{untold, told_rows}
use Rattle.share_calls.specs.AckTalks.{step_part, AckTopicBeside, request_topic, answers_unless, shard_of, ack_answers, own_code, own_ack, own_topic, ack_request, TellsByItsAck}

-- ---- the plan: nothing is released before, and it has one told step for each hosted partition

record IsAckPlan (wanted : List (ℕ × List AckBatch)) (plan : PlanParts) : Type 0 where
  released : plan.released ≡ []
  told : length plan.told ≡ length wanted

plan_by : (caller : Caller) (session : Option Session) (epoch : ℤ) (wanted : List (ℕ × List AckBatch)) → IsAckPlan wanted (ack_by_epoch caller session epoch wanted)
plan_by caller session epoch wanted = go (closes epoch)
  where
    go : (b : Bool) → IsAckPlan wanted (cond b (closing caller session wanted) (acknowledging caller session epoch wanted))
    go true = record { released = refl; told = length-map wanted _ }
    go false = record { released = refl; told = length-map wanted _ }

is_plan : (sessions : List SessionParts) (topics : List Topic) (r : ShareAckRequest) → IsAckPlan (wanted_in topics r.topics) (ack_plan sessions topics r)
is_plan sessions topics r =
    plan_by (caller_of r.group_id r.member_id) (session_of (text_of r.group_id) (text_of r.member_id) sessions) r.share_session_epoch (wanted_in topics r.topics)

-- ---- a partition of the request beside its answer

abbrev Beside : Type 0
Beside = (List ℕ × SharePartition) × VisitAnswer

abbrev asked : List Beside → List (List ℕ × SharePartition)
asked xs = map (λ x. x.0) xs

abbrev answered : List Topic → Beside → List PartAnswer
answered topics x = answers_unless (shard_of topics x.0.0 x.0.1) x.1

abbrev row_in : List Topic → Beside → AcknowledgedPartition
row_in topics x = own_ack topics x.0.0 (x.0.1, x.1)

-- ---- what an acknowledgement keeps stays

module _ (hand : AckHand) where
  same_hand : (es : List AckEntry) (answers : List PartAnswer) → last_call ack_acts hand es answers ≡ hand
  same_hand [] answers = refl
  same_hand (Known row ∷ es) answers = same_hand es answers
  same_hand (Ask q ∷ es) [] = refl
  same_hand (Ask q ∷ es) (a ∷ answers) = same_hand es answers

  parts_first : (es : List AckEntry) (answers : List PartAnswer) → parts ack_acts hand es answers ≡ take (suc (length answers)) (part_list ack_acts hand es)
  parts_first [] answers = refl
  parts_first (Known row ∷ es) answers = parts_first es answers
  parts_first (Ask q ∷ es) [] = refl
  parts_first (Ask q ∷ es) (a ∷ answers) = ap (λ l. ack_acts.part hand q ∷ l) (parts_first es answers)

  parts_untold : (steps : List PlanStep) → part_list ack_acts hand (map untold steps) ≡ map step_part steps
  parts_untold [] = refl
  parts_untold (s ∷ steps) = ap (λ l. step_part s ∷ l) (parts_untold steps)

  -- ---- the visits

  module _ (topics : List Topic) where
    abbrev hosted : List (List ℕ × SharePartition) → ℕ
    hosted es = length (filter_map (wanted_of topics) es)

    -- there are so many steps as hosted partitions, the first of them by this shard
    abbrev Enough : Option ℕ → List ℕ × SharePartition → List PlanStep → List (List ℕ × SharePartition) → Type 0
    Enough o e steps es = length steps ≡ length (cons_option (option_map (λ shard. (shard, map ack_batch e.1.acknowledgement_batches)) o) (filter_map (wanted_of topics) es))

    abbrev entries_by : Option ℕ → List ℕ × SharePartition → List PlanStep → List (List ℕ × SharePartition) → List AckEntry → List AckEntry
    entries_by o e steps es rest = cons_option (next_entry o (unhosted_code topics e.0) (id_of e) steps) (placed topics (steps_behind o steps) es) ++ rest

    part_step : (o : Option ℕ) (e : List ℕ × SharePartition) (steps : List PlanStep) (es : List (List ℕ × SharePartition)) (rest : List AckEntry) (more : List Part) → Enough o e steps es →
        ((later : List PlanStep) → length later ≡ hosted es → part_list ack_acts hand (placed topics later es ++ rest) ≡ map step_part later ++ more) →
        part_list ack_acts hand (entries_by o e steps es rest) ≡ map step_part steps ++ more
    part_step None e steps es rest more n later = later steps n
    part_step (Some shard) e [] es rest more n later = absurd (omega (arith, n))
    part_step (Some shard) e (s ∷ steps) es rest more n later = ap (λ l. step_part s ∷ l) (later steps (omega (arith, n)))

    no_steps : (steps : List PlanStep) → length steps ≡ 0 → steps ≡ []
    no_steps [] n = refl
    no_steps (s ∷ steps) n = absurd (omega (arith, n))

    placed_parts : (es : List (List ℕ × SharePartition)) (steps : List PlanStep) (rest : List AckEntry) → length steps ≡ hosted es →
        part_list ack_acts hand (placed topics steps es ++ rest) ≡ map step_part steps ++ part_list ack_acts hand rest
    placed_parts [] steps rest n = ap (λ l. map step_part l ++ part_list ack_acts hand rest) (sym (no_steps steps n))
    placed_parts (e ∷ es) steps rest n =
        part_step (shard_of topics e.0 e.1) e steps es rest (part_list ack_acts hand rest) n (λ later k. placed_parts es later rest k)

    -- ---- the rows, where each partition stands beside its answer

    row_step : (o : Option ℕ) (e : List ℕ × SharePartition) (a : VisitAnswer) (steps : List PlanStep) (es : List (List ℕ × SharePartition)) (rest : List AckEntry) (answers : List PartAnswer)
        (rows : List AcknowledgedPartition) → Enough o e steps es →
        ((later : List PlanStep) → length later ≡ hosted es → told_rows (entry_rows ack_acts hand (placed topics later es ++ rest) answers) ≡ rows) →
        told_rows (entry_rows ack_acts hand (entries_by o e steps es rest) (answers_unless o a ++ answers))
        ≡ acknowledged e.1.partition_index (own_code o (unhosted_code topics e.0) a) ∷ rows
    row_step None e a steps es rest answers rows n later = ap (λ l. acknowledged e.1.partition_index (unhosted_code topics e.0) ∷ l) (later steps n)
    row_step (Some shard) e a [] es rest answers rows n later = absurd (omega (arith, n))
    row_step (Some shard) e a (s ∷ steps) es rest answers rows n later = ap (λ l. acknowledged e.1.partition_index (ack_code a.ack) ∷ l) (later steps (omega (arith, n)))

    count_step : (o : Option ℕ) (e : List ℕ × SharePartition) (a : VisitAnswer) (steps : List PlanStep) (es : List (List ℕ × SharePartition)) (rest : List AckEntry) (answers : List PartAnswer) →
        Enough o e steps es → ((later : List PlanStep) → length later ≡ hosted es → length answers ≡ questions (placed topics later es ++ rest)) →
        length (answers_unless o a ++ answers) ≡ questions (entries_by o e steps es rest)
    count_step None e a steps es rest answers n later = later steps n
    count_step (Some shard) e a [] es rest answers n later = absurd (omega (arith, n))
    count_step (Some shard) e a (s ∷ steps) es rest answers n later = ap suc (later steps (omega (arith, n)))

    placed_rows : (xs : List Beside) (steps : List PlanStep) (rest : List AckEntry) (answers : List PartAnswer) → length steps ≡ hosted (asked xs) →
        told_rows (entry_rows ack_acts hand (placed topics steps (asked xs) ++ rest) (flat_map (answered topics) xs ++ answers))
        ≡ map (row_in topics) xs ++ told_rows (entry_rows ack_acts hand rest answers)
    placed_rows [] steps rest answers n = refl
    placed_rows (x ∷ xs) steps rest answers n =
        ap (λ l. told_rows (entry_rows ack_acts hand (placed topics steps (asked (x ∷ xs)) ++ rest) l)) (append_assoc (answered topics x) (flat_map (answered topics) xs) answers)
        ∙ row_step (shard_of topics x.0.0 x.0.1) x.0 x.1 steps (asked xs) rest (flat_map (answered topics) xs ++ answers)
        (map (row_in topics) xs ++ told_rows (entry_rows ack_acts hand rest answers)) n (λ later k. placed_rows xs later rest answers k)

    placed_count : (xs : List Beside) (steps : List PlanStep) (rest : List AckEntry) (answers : List PartAnswer) → length steps ≡ hosted (asked xs) →
        length answers ≡ questions rest → length (flat_map (answered topics) xs ++ answers) ≡ questions (placed topics steps (asked xs) ++ rest)
    placed_count [] steps rest answers n m = m
    placed_count (x ∷ xs) steps rest answers n m =
        ap length (append_assoc (answered topics x) (flat_map (answered topics) xs) answers)
        ∙ count_step (shard_of topics x.0.0 x.0.1) x.0 x.1 steps (asked xs) rest (flat_map (answered topics) xs ++ answers) n (λ later k. placed_count xs later rest answers k m)

  -- ---- the releases behind

  rows_closed : (steps : List PlanStep) (answers : List PartAnswer) → told_rows (entry_rows ack_acts hand (map untold steps) answers) ≡ []
  rows_closed [] answers = refl
  rows_closed (s ∷ steps) [] = refl
  rows_closed (s ∷ steps) (a ∷ answers) = rows_closed steps answers

  questions_untold : (steps : List PlanStep) → questions {Q = Visiting} {R = Option AcknowledgedPartition} (map untold steps) ≡ length steps
  questions_untold [] = refl
  questions_untold (s ∷ steps) = ap suc (questions_untold steps)

-- ---- the topics of the request

module _ (topics : List Topic) where
  abbrev tagged : List ℕ → SharePartition × VisitAnswer → Beside
  tagged id x = ((id, x.0), x.1)

  abbrev flat : List AckTopicBeside → List Beside
  flat told = flat_map (λ t. map (tagged t.topic_id) t.partitions) told

  entries_one : (id : List ℕ) (xs : List (SharePartition × VisitAnswer)) → map (λ (p : SharePartition). (id, p)) (map (λ x. x.0) xs) ≡ asked (map (tagged id) xs)
  entries_one id [] = refl
  entries_one id (x ∷ xs) = ap (λ l. (id, x.0) ∷ l) (entries_one id xs)

  entries_flat : (told : List AckTopicBeside) → entries (map request_topic told) ≡ asked (flat told)
  entries_flat [] = refl
  entries_flat (t ∷ told) =
      ap (λ l. l ++ entries (map request_topic told)) (entries_one t.topic_id t.partitions)
      ∙ ap (λ l. asked (map (tagged t.topic_id) t.partitions) ++ l) (entries_flat told)
      ∙ sym (map-append (λ (x : Beside). x.0) (map (tagged t.topic_id) t.partitions) (flat told))

  answers_one : (id : List ℕ) (xs : List (SharePartition × VisitAnswer)) →
      flat_map (λ (x : SharePartition × VisitAnswer). answers_unless (shard_of topics id x.0) x.1) xs ≡ flat_map (answered topics) (map (tagged id) xs)
  answers_one id [] = refl
  answers_one id (x ∷ xs) = ap (λ l. answers_unless (shard_of topics id x.0) x.1 ++ l) (answers_one id xs)

  answers_flat : (told : List AckTopicBeside) → flat_map (ack_answers topics) told ≡ flat_map (answered topics) (flat told)
  answers_flat [] = refl
  answers_flat (t ∷ told) =
      ap (λ l. l ++ flat_map (ack_answers topics) told) (answers_one t.topic_id t.partitions)
      ∙ ap (λ l. flat_map (answered topics) (map (tagged t.topic_id) t.partitions) ++ l) (answers_flat told)
      ∙ sym (flat_map-append (answered topics) (map (tagged t.topic_id) t.partitions) (flat told))

  rows_one : (id : List ℕ) (xs : List (SharePartition × VisitAnswer)) → map (row_in topics) (map (tagged id) xs) ≡ map (own_ack topics id) xs
  rows_one id [] = refl
  rows_one id (x ∷ xs) = ap (λ l. own_ack topics id x ∷ l) (rows_one id xs)

  under_topics : (told : List AckTopicBeside) → rows_by_topic (map shape_of (map request_topic told)) (map (row_in topics) (flat told)) ≡ map (own_topic topics) told
  under_topics [] = refl
  under_topics (t ∷ told) =
      let own = own_ack topics t.topic_id in
      let first = λ (x : SharePartition × VisitAnswer). x.0 in
      let rest = map (row_in topics) (flat told) in
      let shape = map shape_of (map request_topic told) in
      ap (rows_by_topic (map shape_of (map request_topic (t ∷ told)))) (map-append (row_in topics) (map (tagged t.topic_id) t.partitions) (flat told))
      ∙ ap (λ l. rows_by_topic (map shape_of (map request_topic (t ∷ told))) (l ++ rest)) (rows_one t.topic_id t.partitions)
      ∙ ap (λ l. record { topic_id = t.topic_id; partitions = l } ∷ rows_by_topic shape (drop (length (map first t.partitions)) (map own t.partitions ++ rest)))
      (took own first t.partitions rest)
      ∙ ap (λ l. own_topic topics t ∷ rows_by_topic shape l) (left_over own first t.partitions rest)
      ∙ ap (λ l. own_topic topics t ∷ l) (under_topics told)

-- ---- the law

pub tells_by_ack : TellsByItsAck
tells_by_ack = record {
  visits = λ topics sessions r answers e.
      let hand = ack_hand r in
      let plan = ack_plan sessions topics r in
      let es = ack_entries topics r plan in
      let fits = is_plan sessions topics r in
      ap (λ o. talk_parts (stage_talk (talk_of ack_acts) (ack_begins_by topics sessions r o).stage) answers) e
      ∙ ap (λ t. talk_parts t answers) ((means_entries ack_acts).begins hand es)
      ∙ asks_all ack_acts hand es [] answers
      ∙ parts_first hand es answers
      ∙ ap (take (suc (length answers)))
      (placed_parts hand topics (entries r.topics) plan.told (map untold plan.closed) fits.told
      ∙ ap (λ l. map step_part plan.told ++ l) (parts_untold hand plan.closed)
      ∙ sym (map-append step_part plan.told plan.closed)
      ∙ ap (λ (l : List PlanStep). map step_part (l ++ (plan.told ++ plan.closed))) (sym fits.released)
      ∙ ap (map step_part) (sym (append_assoc plan.released plan.told plan.closed)));
  tells = λ topics sessions group member epoch told closed e n.
      let r = ack_request group member epoch told in
      let hand = ack_hand r in
      let plan = ack_plan sessions topics r in
      let xs = flat topics told in
      let behind : List AckEntry = map untold plan.closed in
      let es = placed topics plan.told (asked xs) ++ behind in
      let last : List PartAnswer = map (λ a. Visit a) closed in
      let ans = flat_map (answered topics) xs ++ last in
      let given = flat_map (ack_answers topics) told ++ last in
      let enough : length plan.told ≡ length (filter_map (wanted_of topics) (asked xs)) =
      (is_plan sessions topics r).told ∙ ap (λ l. length (filter_map (wanted_of topics) l)) (entries_flat topics told) in
      let count = placed_count hand topics xs plan.told behind last enough (length-map closed (λ (a : VisitAnswer). Visit a) ∙ n ∙ sym (questions_untold hand plan.closed)) in
      let rows = placed_rows hand topics xs plan.told behind last enough
      ∙ ap (λ l. map (row_in topics) xs ++ l) (rows_closed hand plan.closed last) ∙ append-nil (map (row_in topics) xs) in
      ap (λ o. talk_reply (stage_talk (talk_of ack_acts) (ack_begins_by topics sessions r o).stage) given) e
      ∙ ap (λ t. talk_reply t given) ((means_entries ack_acts).begins hand (ack_entries topics r plan))
      ∙ ap (λ l. talk_reply (talk ack_acts hand (placed topics plan.told l ++ behind) []) given) (entries_flat topics told)
      ∙ ap (λ l. talk_reply (talk ack_acts hand es []) (l ++ last)) (answers_flat topics told)
      ∙ says_all ack_acts hand es [] ans count
      ∙ ap (λ h. Some (ack_acts.body h (entry_rows ack_acts hand es ans))) (same_hand hand es ans)
      ∙ ap (λ l. Some (Some (ack_body (pos 0) (rows_by_topic hand.shape l)))) rows
      ∙ ap (λ l. Some (Some (ack_body (pos 0) l))) (under_topics topics told);
}
