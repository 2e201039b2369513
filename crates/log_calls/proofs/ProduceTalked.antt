-- Each partition is told by its own log.
use Rattle.std.proofs.Common.{◌≡◌, ◌∙◌, ℕ, ℤ, suc, List, [], ◌∷◌, ◌++◌, Option, Some, length, drop, map, refl, ap}
use Rattle.std.specs.List.{flat_map}
use Rattle.flex_fields.specs.declared.version.Version.{Version}
use Rattle.share_model.specs.declared.fault.Code.{Code}
use Rattle.topic_conf.specs.declared.topic.Topic.{Topic}
use Rattle.msgs_base.specs.declared.produce_request.ProducePartition.{ProducePartition}
use Rattle.msgs_base.specs.declared.produce_request.ProduceTopic.{ProduceTopic}
use Rattle.msgs_base.specs.declared.produce_request.ProduceRequest.{ProduceRequest}
use Rattle.msgs_base.specs.declared.produce_reply.ProducePartitionReply.{ProducePartitionReply}
use Rattle.call_fold.specs.declared.part.Produced.{Produced}
use Rattle.call_fold.specs.declared.part.PartAnswer.{PartAnswer}
use Rattle.call_fold.specs.declared.call.Entry.{Entry}
use Rattle.call_fold.specs.Talks.{talk, talk_parts, talk_reply, questions, entry_rows}
use Rattle.call_fold.proofs.Talked.{means_entries}
use Rattle.call_fold.proofs.Grouped.{took, left_over, part_list, entries_in, HasParts, groups_ask, MakesRow, groups_say}
use Rattle.log_calls.specs.declared.plan.Offer.{Offer}
use Rattle.log_calls.specs.declared.produce.ProduceHand.{ProduceHand}
use Rattle.log_calls.specs.Codes.{wants_reply, request_refusal}
use Rattle.log_calls.specs.Produce.{Fate, refuses, offers, fate_of, entry_of, topic_entries, shape_of, rows_by_topic, reply_of, produce_acts, hand_of}
use Rattle.log_calls.specs.ProduceTalks.{parts_by, TopicBeside, request_topic, answers_by, answers_in, own_row, own_topic, request_of, produce_talk, TellsByItsLog}

module _ (topics : List Topic) (refusal : Option Code) (hand : ProduceHand) where
  abbrev entry : List ℕ → ProducePartition → Entry Offer ProducePartitionReply
  entry name p = entry_of p.index (fate_of topics refusal name p)

  part_step : (index : ℤ) (fate : Fate) (es : List (Entry Offer ProducePartitionReply)) →
      part_list produce_acts hand (entry_of index fate ∷ es) ≡ parts_by fate ++ part_list produce_acts hand es
  part_step index (refuses code) es = refl
  part_step index (offers shard batch) es = refl

  has_parts : HasParts produce_acts hand (λ (t : ProduceTopic). t.partition_data) (λ t. entry t.name) (λ t p. parts_by (fate_of topics refusal t.name p))
  has_parts = λ t p es. part_step p.index (fate_of topics refusal t.name p) es

  row_step : (index : ℤ) (fate : Fate) (produced : Produced) (es : List (Entry Offer ProducePartitionReply)) (ans : List PartAnswer) →
      entry_rows produce_acts hand (entry_of index fate ∷ es) (answers_by fate produced ++ ans) ≡ own_row index fate produced ∷ entry_rows produce_acts hand es ans
  row_step index (refuses code) produced es ans = refl
  row_step index (offers shard batch) produced es ans = refl

  count_step : (index : ℤ) (fate : Fate) (produced : Produced) (es : List (Entry Offer ProducePartitionReply)) (ans : List PartAnswer) →
      length ans ≡ questions es → length (answers_by fate produced ++ ans) ≡ questions (entry_of index fate ∷ es)
  count_step index (refuses code) produced es ans e = e
  count_step index (offers shard batch) produced es ans e = ap suc e

  abbrev answers_one : TopicBeside → ProducePartition × Produced → List PartAnswer
  answers_one t x = answers_by (fate_of topics refusal t.name x.0) x.1

  abbrev row_one : TopicBeside → ProducePartition × Produced → ProducePartitionReply
  row_one t x = own_row x.0.index (fate_of topics refusal t.name x.0) x.1

  makes_row : MakesRow produce_acts hand (λ (t : TopicBeside). t.partitions) (λ t x. entry t.name x.0) answers_one row_one
  makes_row = record {
    row = λ t x es ans. row_step x.0.index (fate_of topics refusal t.name x.0) x.1 es ans;
    count = λ t x es ans e. count_step x.0.index (fate_of topics refusal t.name x.0) x.1 es ans e;
  }

  abbrev entries : List ProduceTopic → List (Entry Offer ProducePartitionReply)
  entries ts = flat_map (topic_entries topics refusal) ts

  entries_beside : (name : List ℕ) (xs : List (ProducePartition × Produced)) → map (entry name) (map (λ x. x.0) xs) ≡ map (λ x. entry name x.0) xs
  entries_beside name [] = refl
  entries_beside name (x ∷ xs) = ap (λ l. entry name x.0 ∷ l) (entries_beside name xs)

  entries_told : (told : List TopicBeside) →
      entries (map request_topic told) ≡ entries_in produce_acts hand (λ (t : TopicBeside). t.partitions) (λ t x. entry t.name x.0) told
  entries_told [] = refl
  entries_told (t ∷ told) =
      ap (λ l. l ++ entries (map request_topic told)) (entries_beside t.name t.partitions)
      ∙ ap (λ l. map (λ (x : ProducePartition × Produced). entry t.name x.0) t.partitions ++ l) (entries_told told)

  under_topics : (told : List TopicBeside) →
      rows_by_topic (map shape_of (map request_topic told)) (flat_map (λ t. map (row_one t) t.partitions) told) ≡ map (own_topic topics refusal) told
  under_topics [] = refl
  under_topics (t ∷ told) =
      let own = row_one t in
      let first = λ (x : ProducePartition × Produced). x.0 in
      let rest = flat_map (λ (s : TopicBeside). map (row_one s) s.partitions) told in
      let shape = map shape_of (map request_topic told) in
      ap (λ l. record { name = t.name; partition_responses = l } ∷ rows_by_topic shape (drop (length (map first t.partitions)) (map own t.partitions ++ rest)))
      (took own first t.partitions rest)
      ∙ ap (λ l. own_topic topics refusal t ∷ rows_by_topic shape l) (left_over own first t.partitions rest)
      ∙ ap (λ l. own_topic topics refusal t ∷ l) (under_topics told)

of_request : (version : Version) (topics : List Topic) (request : ProduceRequest) →
    produce_talk version topics request
    ≡ talk produce_acts (hand_of version request) (flat_map (topic_entries topics (request_refusal request.acks request.transactional_id)) request.topic_data) []
of_request version topics request =
    (means_entries produce_acts).begins (hand_of version request) (flat_map (topic_entries topics (request_refusal request.acks request.transactional_id)) request.topic_data)

pub tells_by_log : TellsByItsLog
tells_by_log = record {
  asks = λ version topics request answers.
      let refusal = request_refusal request.acks request.transactional_id in
      let hand = hand_of version request in
      ap (λ t. talk_parts t answers) (of_request version topics request)
      ∙ groups_ask produce_acts hand (λ (t : ProduceTopic). t.partition_data) (λ t. entry topics refusal hand t.name) (λ question answer. refl)
      (λ t p. parts_by (fate_of topics refusal t.name p)) (has_parts topics refusal hand) request.topic_data answers;
  says_own = λ version topics transaction acks timeout told.
      let refusal = request_refusal acks transaction in
      let request = request_of transaction acks timeout told in
      let hand = hand_of version request in
      let ans = flat_map (answers_in topics refusal) told in
      ap (λ t. talk_reply t ans) (of_request version topics request)
      ∙ ap (λ es. talk_reply (talk produce_acts hand es []) ans) (entries_told topics refusal hand told)
      ∙ groups_say produce_acts hand (λ (t : TopicBeside). t.partitions) (λ t x. entry topics refusal hand t.name x.0)
      (answers_one topics refusal hand) (row_one topics refusal hand) (makes_row topics refusal hand) (λ question answer. refl) told
      ∙ ap (λ l. Some (reply_of version (wants_reply acks) l)) (under_topics topics refusal hand told);
}
