-- Each partition is told by its own part.
use Rattle.std.proofs.Common.{◌≡◌, ◌∙◌, ℕ, ℤ, pos, negsuc, nat_abs, suc, Bool, true, false, cond, List, [], ◌∷◌, ◌++◌, Option, Some}
use Rattle.std.proofs.Common.{length, drop, map, refl, ap}
use Rattle.std.specs.List.{flat_map}
use Rattle.flex_fields.specs.Formats.{Format}
use Rattle.share_model.specs.ErrorCodes.{INVALID_GROUP_ID}
use Rattle.share_model.specs.ForeignRules.{code_alone}
use Rattle.topic_conf.specs.declared.topic.Topic.{Topic}
use Rattle.msgs_state.specs.declared.state_message.StateTopic.{StateTopic}
use Rattle.msgs_state.specs.declared.state_message.StateRequest.{StateRequest}
use Rattle.call_fold.specs.declared.part.PartAnswer.{PartAnswer}
use Rattle.call_fold.specs.declared.part.Part.{Part}
use Rattle.call_fold.specs.declared.call.Entry.{Entry}
use Rattle.call_fold.specs.declared.call.Stage.TheVariants.{Says}
use Rattle.call_fold.specs.Parts.{foreign_answer}
use Rattle.call_fold.specs.Calls.{Acts}
use Rattle.call_fold.specs.Going.{stage_of, known_rows}
use Rattle.call_fold.specs.Talks.{says, talk, talk_of, stage_talk, talk_parts, talk_reply, questions, entry_rows}
use Rattle.call_fold.proofs.Talked.{means_entries}
use Rattle.call_fold.proofs.Grouped.{took, left_over, took_all, left_all, part_list, entries_in, HasParts, groups_ask, MakesRow, groups_say}
use Rattle.state_calls.specs.declared.hosting.Hosting.{Hosting}
use Rattle.state_calls.specs.declared.plan.Fate.{Fate}
use Rattle.state_calls.specs.declared.plan.Fate.TheVariants.{Refused, LookedAt, AskedAbroad}
use Rattle.state_calls.specs.declared.plan.Question.{Question}
use Rattle.state_calls.specs.declared.state.StateHand.{StateHand}
use Rattle.topic_conf.specs.Topics.{shard_at}
use Rattle.state_calls.specs.States.{StateMeans, is_group, is_hosted, fate, fate_of, entry_of, partition_entry, topic_entries, shape_of}
use Rattle.state_calls.specs.StateCalls.{state_acts, state_body, hand_of, rows_by_topic, body_of}
use Rattle.state_calls.specs.StateTalks.{part_by, request_topic, answer_by, answers_in, own_answer, own_row, own_topic}
use Rattle.state_calls.specs.StateTalks.{refused_topic, state_talk, TellsByItsPart}

-- a partition of which the foreign shard is asked has a number that isn't negative
number_same : (hosted : Bool) (hosting : Hosting) (shard : Option ℕ) (n : ℤ) → fate true hosted hosting shard n ≡ AskedAbroad → pos (nat_abs n) ≡ n
number_same hosted hosting shard (pos n) e = refl
number_same hosted hosting shard (negsuc n) e = absurd cc

module _ {S P W R : Type 0} (means : StateMeans P W R) (f : Format R) (topics : List Topic) (hand : StateHand S) where
  abbrev acts : Acts (StateHand S) (Question W) R
  acts = state_acts means f

  abbrev entry : List ℕ → P → Entry (Question W) R
  entry topic p = partition_entry means topics true topic p

  -- ---- one partition, asked

  part_step : (topic : List ℕ) (n : ℤ × W) (o : Fate) (es : List (Entry (Question W) R)) →
      part_list acts hand (entry_of means topic n o ∷ es) ≡ part_by o means hand.group topic n ++ part_list acts hand es
  part_step topic n (Refused code) es = refl
  part_step topic n (LookedAt shard) es = refl
  part_step topic n AskedAbroad es = refl

  abbrev own_parts : StateTopic P → P → List Part
  own_parts t p = part_by (fate_of means topics true t.topic_id p) means hand.group t.topic_id (means.wish p)

  has_parts : HasParts acts hand (λ (t : StateTopic P). t.partitions) (λ t. entry t.topic_id) own_parts
  has_parts = λ t p es. part_step t.topic_id (means.wish p) (fate_of means topics true t.topic_id p) es

  -- ---- one partition, beside its answer

  abbrev Told : Type 0
  Told = StateTopic (P × PartAnswer)

  row_step : (topic : List ℕ) (n : ℤ × W) (o : Fate) (answer : PartAnswer) (es : List (Entry (Question W) R)) (ans : List PartAnswer) →
      (o ≡ AskedAbroad → pos (nat_abs n.0) ≡ n.0) →
      entry_rows acts hand (entry_of means topic n o ∷ es) (answer_by o answer ++ ans) ≡ means.row n.0 (own_answer o answer) ∷ entry_rows acts hand es ans
  row_step topic n (Refused code) answer es ans same = refl
  row_step topic n (LookedAt shard) answer es ans same = refl
  row_step topic n AskedAbroad answer es ans same = ap (λ k. means.row k (foreign_answer answer) ∷ entry_rows acts hand es ans) (same refl)

  count_step : (topic : List ℕ) (n : ℤ × W) (o : Fate) (answer : PartAnswer) (es : List (Entry (Question W) R)) (ans : List PartAnswer) →
      length ans ≡ questions es → length (answer_by o answer ++ ans) ≡ questions (entry_of means topic n o ∷ es)
  count_step topic n (Refused code) answer es ans e = e
  count_step topic n (LookedAt shard) answer es ans e = ap suc e
  count_step topic n AskedAbroad answer es ans e = ap suc e

  abbrev answers_one : Told → P × PartAnswer → List PartAnswer
  answers_one t x = answer_by (fate_of means topics true t.topic_id x.0) x.1

  makes_row : MakesRow acts hand (λ (t : Told). t.partitions) (λ t x. entry t.topic_id x.0) answers_one (λ t x. own_row means topics t.topic_id x)
  makes_row = record {
    row = λ t x es ans. row_step t.topic_id (means.wish x.0) (fate_of means topics true t.topic_id x.0) x.1 es ans
        (number_same (is_hosted topics t.topic_id) means.hosted (shard_at t.topic_id (means.wish x.0).0 topics) (means.wish x.0).0);
    count = λ t x es ans e. count_step t.topic_id (means.wish x.0) (fate_of means topics true t.topic_id x.0) x.1 es ans e;
  }

  -- ---- all topics

  abbrev entries : List (StateTopic P) → List (Entry (Question W) R)
  entries ts = flat_map (topic_entries means topics true) ts

  entries_beside : (topic : List ℕ) (xs : List (P × PartAnswer)) → map (entry topic) (map (λ x. x.0) xs) ≡ map (λ x. entry topic x.0) xs
  entries_beside topic [] = refl
  entries_beside topic (x ∷ xs) = ap (λ l. entry topic x.0 ∷ l) (entries_beside topic xs)

  entries_told : (told : List Told) → entries (map request_topic told) ≡ entries_in acts hand (λ (t : Told). t.partitions) (λ t x. entry t.topic_id x.0) told
  entries_told [] = refl
  entries_told (t ∷ told) =
      ap (λ l. l ++ entries (map request_topic told)) (entries_beside t.topic_id t.partitions)
      ∙ ap (λ l. map (λ (x : P × PartAnswer). entry t.topic_id x.0) t.partitions ++ l) (entries_told told)

  under_topics : (told : List Told) →
      rows_by_topic (map shape_of (map request_topic told)) (flat_map (λ t. map (own_row means topics t.topic_id) t.partitions) told)
      ≡ map (own_topic means topics) told
  under_topics [] = refl
  under_topics (t ∷ told) =
      let own = own_row means topics t.topic_id in
      let first = λ (x : P × PartAnswer). x.0 in
      let rest = flat_map (λ (s : Told). map (own_row means topics s.topic_id) s.partitions) told in
      let shape = map shape_of (map request_topic told) in
      ap (λ l. record { topic_id = t.topic_id; partitions = l } ∷ rows_by_topic shape (drop (length (map first t.partitions)) (map own t.partitions ++ rest)))
      (took own first t.partitions rest)
      ∙ ap (λ l. own_topic means topics t ∷ rows_by_topic shape l) (left_over own first t.partitions rest)
      ∙ ap (λ l. own_topic means topics t ∷ l) (under_topics told)

-- ---- a group that is none

module _ {P W R : Type 0} (means : StateMeans P W R) (topics : List Topic) where
  refused_rows : (topic : List ℕ) (ps : List P) (es : List (Entry (Question W) R)) →
      known_rows (map (partition_entry means topics false topic) ps ++ es) ≡ map (λ p. means.row (means.wish p).0 (code_alone INVALID_GROUP_ID)) ps ++ known_rows es
  refused_rows topic [] es = refl
  refused_rows topic (p ∷ ps) es = ap (λ l. means.row (means.wish p).0 (code_alone INVALID_GROUP_ID) ∷ l) (refused_rows topic ps es)

  refused_topics : (ts : List (StateTopic P)) →
      rows_by_topic (map shape_of ts) (known_rows (flat_map (topic_entries means topics false) ts)) ≡ map (refused_topic means) ts
  refused_topics [] = refl
  refused_topics (t ∷ ts) =
      let refuse = λ (p : P). means.row (means.wish p).0 (code_alone INVALID_GROUP_ID) in
      let rest = known_rows (flat_map (topic_entries means topics false) ts) in
      ap (rows_by_topic (map shape_of (t ∷ ts))) (refused_rows t.topic_id t.partitions (flat_map (topic_entries means topics false) ts))
      ∙ ap (λ l. record { topic_id = t.topic_id; partitions = l } ∷ rows_by_topic (map shape_of ts) (drop (length t.partitions) (map refuse t.partitions ++ rest)))
      (took_all refuse t.partitions rest)
      ∙ ap (λ l. refused_topic means t ∷ rows_by_topic (map shape_of ts) l) (left_all refuse t.partitions rest)
      ∙ ap (λ l. refused_topic means t ∷ l) (refused_topics ts)

-- ---- the law

module _ {S P W R : Type 0} (means : StateMeans P W R) (f : Format R) where
  of_group : (topics : List Topic) (call : S) (request : StateRequest P) → is_group request.group_id ≡ true →
      state_talk means f topics call request ≡ talk (state_acts means f) (hand_of call request) (flat_map (topic_entries means topics true) request.topics) []
  of_group topics call request e =
      let es = flat_map (topic_entries means topics true) request.topics in
      let none = Says (state_body f (map shape_of request.topics) (known_rows (flat_map (topic_entries means topics false) request.topics))) in
      ap (λ b. stage_talk (talk_of (state_acts means f)) (cond b (stage_of (state_acts means f) (hand_of call request) es []) none)) e
      ∙ (means_entries (state_acts means f)).begins (hand_of call request) es

  of_none : (topics : List Topic) (call : S) (request : StateRequest P) → is_group request.group_id ≡ false →
      state_talk means f topics call request ≡ says (body_of f (map (refused_topic means) request.topics))
  of_none topics call request e =
      let es = flat_map (topic_entries means topics true) request.topics in
      let none = Says (state_body f (map shape_of request.topics) (known_rows (flat_map (topic_entries means topics false) request.topics))) in
      ap (λ b. stage_talk (talk_of (state_acts means f)) (cond b (stage_of (state_acts means f) (hand_of call request) es []) none)) e
      ∙ ap (λ l. says (body_of f l)) (refused_topics means topics request.topics)

pub tells_by_part : {S P W R : Type 0} (means : StateMeans P W R) (f : Format R) → TellsByItsPart S means f
tells_by_part {S} {P} {W} {R} means f = record {
  asks = λ topics call request answers e.
      let hand = hand_of call request in
      ap (λ t. talk_parts t answers) (of_group means f topics call request e)
      ∙ groups_ask (state_acts means f) hand (λ (t : StateTopic P). t.partitions) (λ t. entry means f topics hand t.topic_id) (λ question answer. refl)
      (own_parts means f topics hand) (has_parts means f topics hand) request.topics answers;
  says_own = λ topics call group told e.
      let acts = state_acts means f in let request : StateRequest P = record { group_id = group; topics = map request_topic told } in let hand = hand_of call request in
      let ans = flat_map (answers_in means topics) told in
      ap (λ t. talk_reply t ans) (of_group means f topics call request e)
      ∙ ap (λ es. talk_reply (talk acts hand es []) ans) (entries_told means f topics hand told)
      ∙ groups_say acts hand (λ (t : StateTopic (P × PartAnswer)). t.partitions) (λ t x. entry means f topics hand t.topic_id x.0)
      (answers_one means f topics hand) (λ t x. own_row means topics t.topic_id x) (makes_row means f topics hand) (λ question answer. refl) told
      ∙ ap (λ l. Some (body_of f l)) (under_topics means f topics hand told);
  refuses = λ topics call request e. of_none means f topics call request e;
}
