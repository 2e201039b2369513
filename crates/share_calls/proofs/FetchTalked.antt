-- Each told partition of a ShareFetch is told by its own visit.
use Rattle.std.proofs.Common.{◌≡◌, ◌∙◌, ℕ, ℤ, pos, suc, ◌+◌, ◌-◌, Bool, true, false, ◌&&◌, nat_eq, Option, Some, None, List, [], ◌∷◌, ◌++◌, length, map, sum_by, slice_get}
use Rattle.std.proofs.Common.{refl, sym, ap, arith, append_assoc, append-nil}
use Rattle.std.specs.List.{filter_map, list_all, cons_option}
use Rattle.std.specs.Option.{option_map}
use Rattle.std.proofs.lemmas.List.Sums.{sum_by-cons}
use Rattle.share_model.specs.declared.visit.VisitAnswer.{VisitAnswer}
use Rattle.topic_conf.specs.Configs.{ConfigParts}
use Rattle.topic_conf.specs.declared.topic.Topic.{Topic}
use Rattle.msgs_share.specs.declared.share_fetch_request.ShareFetchRequest.{ShareFetchRequest}
use Rattle.call_fold.specs.declared.part.PartAnswer.{PartAnswer}
use Rattle.call_fold.specs.declared.part.PartAnswer.TheVariants.{Visit}
use Rattle.call_fold.specs.Parts.{visit_answer}
use Rattle.call_fold.specs.declared.call.Entry.{Entry}
use Rattle.call_fold.specs.declared.call.Entry.TheVariants.{Known, Ask}
use Rattle.call_fold.specs.Talks.{talk, talk_reply, questions, entry_rows, last_call}
use Rattle.call_fold.proofs.Talked.{means_entries, says_all}
use Rattle.share_session.specs.declared.step.PlanStep.{PlanStep}
use Rattle.share_session.specs.PlanParts.{PlanParts}
use Rattle.share_session.specs.Plans.{steps_of}
use Rattle.share_calls.specs.declared.fetch.FetchHand.{FetchHand}
use Rattle.share_calls.specs.declared.fetch_rows.FetchRow.{FetchRow}
use Rattle.share_calls.specs.declared.visiting.Visiting.{Visiting}
use Rattle.share_calls.specs.Fetch.{granted, hand_after, row_for, unhosted, told, known, fetch_acts, fetch_body, fetch_entries, fetch_hand}
use Rattle.share_calls.specs.Visits.{untold, told_rows}
use Rattle.share_calls.specs.declared.wish.WaitWish.{WaitWish}
use Rattle.share_calls.specs.Wishes.{wish_of}
use Rattle.share_calls.specs.FetchTalks.{part_after, wish_left, limits_left, visit_part, Answered, PlanBeside, steps_in, answers_in, plan_in, own_row, fetch_talk, TellsByItsVisit}
use Rattle.share_calls.proofs.Placing.{cons_append}

abbrev FetchEntry : Type 0
FetchEntry = Entry Visiting (Option FetchRow)

-- ---- the limits

and_true : (b : Bool) → (b && true) ≡ b
and_true true = refl
and_true false = refl

and_assoc : (a b c : Bool) → ((a && b) && c) ≡ (a && (b && c))
and_assoc true b c = refl
and_assoc false b c = refl

less_none : (n : ℕ) → n - 0 ≡ n
less_none n = omega arith

less_more : (n a b c : ℕ) → c ≡ a + b → (n - a) - b ≡ n - c
less_more n a b c e = omega (arith, e)

abbrev hand_with : ℤ → Option WaitWish → ℕ → ℕ → Bool → FetchHand
hand_with lock wish records bytes first = record { lock_ms = lock; records = records; bytes = bytes; first = first; wish = wish }

none_left : (answers : List VisitAnswer) → wish_left None answers ≡ None
none_left [] = refl
none_left (a ∷ answers) = refl

no_limits : (hand : FetchHand) → limits_left hand [] ≡ hand
no_limits hand =
    ap (λ n. hand_with hand.lock_ms hand.wish n (hand.bytes - 0) (hand.first && true)) (less_none hand.records)
    ∙ ap (λ n. hand_with hand.lock_ms hand.wish hand.records n (hand.first && true)) (less_none hand.bytes)
    ∙ ap (hand_with hand.lock_ms hand.wish hand.records hand.bytes) (and_true hand.first)

more_limits : (hand : FetchHand) (a : VisitAnswer) (answers : List VisitAnswer) → limits_left (hand_after hand a) answers ≡ limits_left hand (a ∷ answers)
more_limits hand a answers =
    let of_grants = λ (b : VisitAnswer). granted b.grants in
    let of_batches = λ (b : VisitAnswer). length b.batches in
    let empty = λ (b : VisitAnswer). nat_eq (length b.batches) 0 in
    let after = hand_after hand a in
    ap (λ w. hand_with hand.lock_ms w (after.records - sum_by of_grants answers) (after.bytes - sum_by of_batches answers) (after.first && list_all empty answers))
    (none_left answers)
    ∙ ap (λ n. hand_with hand.lock_ms None n (after.bytes - sum_by of_batches answers) (after.first && list_all empty answers))
    (less_more hand.records (of_grants a) (sum_by of_grants answers) (sum_by of_grants (a ∷ answers)) (sum_by-cons of_grants a answers))
    ∙ ap (λ n. hand_with hand.lock_ms None (hand.records - sum_by of_grants (a ∷ answers)) n (after.first && list_all empty answers))
    (less_more hand.bytes (of_batches a) (sum_by of_batches answers) (sum_by of_batches (a ∷ answers)) (sum_by-cons of_batches a answers))
    ∙ ap (hand_with hand.lock_ms None (hand.records - sum_by of_grants (a ∷ answers)) (hand.bytes - sum_by of_batches (a ∷ answers)))
    (and_assoc hand.first (empty a) (list_all empty answers))

-- ---- the visits

-- the steps of the questions
abbrev asked : List FetchEntry → List PlanStep
asked [] = []
asked (Known row ∷ es) = asked es
asked (Ask q ∷ es) = q.step ∷ asked es

next_part : (hand : FetchHand) (es : List FetchEntry) (rows : List (Option FetchRow)) (answers : List VisitAnswer) →
    part_after (talk fetch_acts hand es rows) (map (λ a. Visit a) answers) ≡ option_map (visit_part (limits_left hand answers)) (slice_get (asked es) (length answers))
next_part hand [] rows answers = refl
next_part hand (Known row ∷ es) rows answers = next_part hand es (rows ++ row ∷ []) answers
next_part hand (Ask q ∷ es) rows [] = ap (λ h. Some (visit_part h q.step)) (sym (no_limits hand))
next_part hand (Ask q ∷ es) rows (a ∷ answers) =
    next_part (hand_after hand a) es (rows ++ row_for q.step.purpose q.told a ∷ []) answers
    ∙ ap (λ h. option_map (visit_part h) (slice_get (asked es) (length answers))) (more_limits hand a answers)

asked_untold : (steps : List PlanStep) (es : List FetchEntry) → asked (map untold steps ++ es) ≡ steps ++ asked es
asked_untold [] es = refl
asked_untold (s ∷ steps) es = ap (λ l. s ∷ l) (asked_untold steps es)

asked_told : (topics : List Topic) (steps : List PlanStep) (es : List FetchEntry) → asked (map (told topics) steps ++ es) ≡ steps ++ asked es
asked_told topics [] es = refl
asked_told topics (s ∷ steps) es = ap (λ l. s ∷ l) (asked_told topics steps es)

asked_known : (rows : List FetchRow) → asked (map known rows) ≡ []
asked_known [] = refl
asked_known (row ∷ rows) = asked_known rows

asks_steps : (topics : List Topic) (r : ShareFetchRequest) (plan : PlanParts) → asked (fetch_entries topics r plan) ≡ steps_of plan
asks_steps topics r plan =
    asked_untold plan.released (map (told topics) plan.told ++ (map untold plan.closed ++ map known (unhosted topics r)))
    ∙ ap (λ l. plan.released ++ l) (asked_told topics plan.told (map untold plan.closed ++ map known (unhosted topics r)))
    ∙ ap (λ l. plan.released ++ (plan.told ++ l)) (asked_untold plan.closed (map known (unhosted topics r)))
    ∙ ap (λ l. plan.released ++ (plan.told ++ (plan.closed ++ l))) (asked_known (unhosted topics r))
    ∙ ap (λ l. plan.released ++ (plan.told ++ l)) (append-nil plan.closed)
    ∙ sym (append_assoc plan.released plan.told plan.closed)

-- ---- the rows

-- what is told, whatever the limits are
abbrev told_in : List FetchEntry → List PartAnswer → List FetchRow
told_in [] answers = []
told_in (Known row ∷ es) answers = cons_option row (told_in es answers)
told_in (Ask q ∷ es) [] = []
told_in (Ask q ∷ es) (a ∷ answers) = cons_option (row_for q.step.purpose q.told (visit_answer a)) (told_in es answers)

rows_told : (hand : FetchHand) (es : List FetchEntry) (answers : List PartAnswer) → told_rows (entry_rows fetch_acts hand es answers) ≡ told_in es answers
rows_told hand [] answers = refl
rows_told hand (Known row ∷ es) answers = ap (cons_option row) (rows_told hand es answers)
rows_told hand (Ask q ∷ es) [] = refl
rows_told hand (Ask q ∷ es) (a ∷ answers) = ap (cons_option (row_for q.step.purpose q.told (visit_answer a))) (rows_told (hand_after hand (visit_answer a)) es answers)

lock_kept : (hand : FetchHand) (es : List FetchEntry) (answers : List PartAnswer) → (last_call fetch_acts hand es answers).lock_ms ≡ hand.lock_ms
lock_kept hand [] answers = refl
lock_kept hand (Known row ∷ es) answers = lock_kept hand es answers
lock_kept hand (Ask q ∷ es) [] = refl
lock_kept hand (Ask q ∷ es) (a ∷ answers) = lock_kept (hand_after hand (visit_answer a)) es answers

in_untold : (xs : List Answered) (es : List FetchEntry) (answers : List PartAnswer) →
    told_in (map untold (steps_in xs) ++ es) (answers_in xs ++ answers) ≡ told_in es answers
in_untold [] es answers = refl
in_untold (x ∷ xs) es answers = in_untold xs es answers

in_told : (topics : List Topic) (xs : List Answered) (es : List FetchEntry) (answers : List PartAnswer) →
    told_in (map (told topics) (steps_in xs) ++ es) (answers_in xs ++ answers) ≡ filter_map (own_row topics) xs ++ told_in es answers
in_told topics [] es answers = refl
in_told topics (x ∷ xs) es answers =
    ap (cons_option (own_row topics x)) (in_told topics xs es answers) ∙ cons_append (own_row topics x) (filter_map (own_row topics) xs) (told_in es answers)

in_known : (rows : List FetchRow) (answers : List PartAnswer) → told_in (map known rows) answers ≡ rows
in_known [] answers = refl
in_known (row ∷ rows) answers = ap (λ l. row ∷ l) (in_known rows answers)

count_untold : (xs : List Answered) (es : List FetchEntry) (answers : List PartAnswer) → length answers ≡ questions es →
    length (answers_in xs ++ answers) ≡ questions (map untold (steps_in xs) ++ es)
count_untold [] es answers e = e
count_untold (x ∷ xs) es answers e = ap suc (count_untold xs es answers e)

count_told : (topics : List Topic) (xs : List Answered) (es : List FetchEntry) (answers : List PartAnswer) → length answers ≡ questions es →
    length (answers_in xs ++ answers) ≡ questions (map (told topics) (steps_in xs) ++ es)
count_told topics [] es answers e = e
count_told topics (x ∷ xs) es answers e = ap suc (count_told topics xs es answers e)

count_known : (rows : List FetchRow) → 0 ≡ questions (map known rows)
count_known [] = refl
count_known (row ∷ rows) = count_known rows

module _ (conf : ConfigParts) (r : ShareFetchRequest) (b : PlanBeside) where
  abbrev behind : List FetchEntry
  behind = map known (unhosted conf.topics r)

  abbrev closed : List FetchEntry
  closed = map untold (steps_in b.closed) ++ behind

  abbrev middle : List FetchEntry
  middle = map (told conf.topics) (steps_in b.told) ++ closed

  abbrev whole : List FetchEntry
  whole = map untold (steps_in b.released) ++ middle

  abbrev answers_last : List PartAnswer
  answers_last = answers_in b.closed ++ []

  abbrev all_answers : List PartAnswer
  all_answers = answers_in b.released ++ (answers_in b.told ++ answers_last)

  all_told : told_in whole all_answers ≡ filter_map (own_row conf.topics) b.told ++ unhosted conf.topics r
  all_told =
      in_untold b.released middle (answers_in b.told ++ answers_last)
      ∙ in_told conf.topics b.told closed answers_last
      ∙ ap (λ l. filter_map (own_row conf.topics) b.told ++ l) (in_untold b.closed behind [] ∙ in_known (unhosted conf.topics r) [])

  all_count : length all_answers ≡ questions whole
  all_count =
      count_untold b.released middle (answers_in b.told ++ answers_last)
      (count_told conf.topics b.told closed answers_last (count_untold b.closed behind [] (count_known (unhosted conf.topics r))))

  says_rows : (wish : Option WaitWish) → talk_reply (talk fetch_acts (fetch_hand conf r wish) whole []) all_answers
      ≡ Some (Some (fetch_body (pos conf.lock_ms) (pos 0) (filter_map (own_row conf.topics) b.told ++ unhosted conf.topics r)))
  says_rows wish =
      let hand = fetch_hand conf r wish in
      let rows = entry_rows fetch_acts hand whole all_answers in
      says_all fetch_acts hand whole [] all_answers all_count
      ∙ ap (λ ms. Some (Some (fetch_body ms (pos 0) (told_rows rows)))) (lock_kept hand whole all_answers)
      ∙ ap (λ l. Some (Some (fetch_body (pos conf.lock_ms) (pos 0) l))) (rows_told hand whole all_answers ∙ all_told)

pub tells_by_visit : TellsByItsVisit
tells_by_visit = record {
  visits = λ conf r plan answers.
      let hand = fetch_hand conf r (wish_of r plan.told) in
      let es = fetch_entries conf.topics r plan in
      ap (λ t. part_after t (map (λ a. Visit a) answers)) ((means_entries fetch_acts).begins hand es)
      ∙ next_part hand es [] answers
      ∙ ap (λ steps. option_map (visit_part (limits_left hand answers)) (slice_get steps (length answers))) (asks_steps conf.topics r plan);
  tells = λ conf r beside change.
      let plan = plan_in beside change in
      let hand = fetch_hand conf r (wish_of r plan.told) in
      let ended = sym (append-nil (answers_in beside.closed)) in
      ap (λ l. talk_reply (fetch_talk conf r plan) (answers_in beside.released ++ (answers_in beside.told ++ l))) ended
      ∙ ap (λ t. talk_reply t (all_answers conf r beside)) ((means_entries fetch_acts).begins hand (fetch_entries conf.topics r plan))
      ∙ says_rows conf r beside (wish_of r plan.told);
}
