-- Each partition of a DeleteRecords is told by its own log.
use Rattle.std.proofs.Common.{◌≡◌, ◌∙◌, ℕ, suc, List, [], ◌∷◌, ◌++◌, Option, Some, None, length, drop, map, refl, ap}
use Rattle.std.specs.List.{flat_map}
use Rattle.share_model.specs.declared.delete.DeleteAnswer.{DeleteAnswer}
use Rattle.topic_conf.specs.declared.topic.Topic.{Topic}
use Rattle.msgs_base.specs.declared.delete_records_request.DeleteRecordsPartition.{DeleteRecordsPartition}
use Rattle.msgs_base.specs.declared.delete_records_request.DeleteRecordsTopic.{DeleteRecordsTopic}
use Rattle.msgs_base.specs.declared.delete_records_request.DeleteRecordsRequest.{DeleteRecordsRequest}
use Rattle.msgs_base.specs.declared.delete_records_reply.DeleteRecordsPartitionResult.{DeleteRecordsPartitionResult}
use Rattle.call_fold.specs.declared.part.PartAnswer.{PartAnswer}
use Rattle.call_fold.specs.declared.call.Entry.{Entry}
use Rattle.call_fold.specs.Talks.{talk, talk_parts, talk_reply, questions, entry_rows}
use Rattle.call_fold.proofs.Talked.{means_entries}
use Rattle.call_fold.proofs.Grouped.{took, left_over, part_list, entries_in, HasParts, groups_ask, MakesRow, groups_say}
use Rattle.log_calls.specs.declared.delete.Target.{Target}
use Rattle.log_calls.specs.declared.delete.DeleteHand.{DeleteHand}
use Rattle.log_calls.specs.Delete.{delete_acts, delete_reply, results_by_topic, target_entries, target_entry, target_shape}
use Rattle.log_calls.specs.DeleteTalks.{TellsItsStart, TopicBeside, answers_by, answers_in, delete_talk, own_row, own_topic, parts_by, request_of, request_topic, shard_of}

abbrev hand_of : DeleteRecordsRequest → DeleteHand
hand_of request = record { shape = map target_shape request.topics }

module _ (topics : List Topic) (hand : DeleteHand) where
  abbrev entry : List ℕ → DeleteRecordsPartition → Entry Target DeleteRecordsPartitionResult
  entry name p = target_entry p (shard_of topics name p)

  part_step : (p : DeleteRecordsPartition) (shard : Option ℕ) (es : List (Entry Target DeleteRecordsPartitionResult)) →
      part_list delete_acts hand (target_entry p shard ∷ es) ≡ parts_by shard p.offset ++ part_list delete_acts hand es
  part_step p None es = refl
  part_step p (Some shard) es = refl

  has_parts : HasParts delete_acts hand (λ (t : DeleteRecordsTopic). t.partitions) (λ t. entry t.name) (λ t p. parts_by (shard_of topics t.name p) p.offset)
  has_parts = λ t p es. part_step p (shard_of topics t.name p) es

  row_step : (p : DeleteRecordsPartition) (shard : Option ℕ) (answer : DeleteAnswer) (es : List (Entry Target DeleteRecordsPartitionResult)) (ans : List PartAnswer) →
      entry_rows delete_acts hand (target_entry p shard ∷ es) (answers_by shard answer ++ ans) ≡ own_row p.partition_index shard answer ∷ entry_rows delete_acts hand es ans
  row_step p None answer es ans = refl
  row_step p (Some shard) answer es ans = refl

  count_step : (p : DeleteRecordsPartition) (shard : Option ℕ) (answer : DeleteAnswer) (es : List (Entry Target DeleteRecordsPartitionResult)) (ans : List PartAnswer) →
      length ans ≡ questions es → length (answers_by shard answer ++ ans) ≡ questions (target_entry p shard ∷ es)
  count_step p None answer es ans e = e
  count_step p (Some shard) answer es ans e = ap suc e

  abbrev answers_one : TopicBeside → DeleteRecordsPartition × DeleteAnswer → List PartAnswer
  answers_one t x = answers_by (shard_of topics t.name x.0) x.1

  abbrev row_one : TopicBeside → DeleteRecordsPartition × DeleteAnswer → DeleteRecordsPartitionResult
  row_one t x = own_row x.0.partition_index (shard_of topics t.name x.0) x.1

  makes_row : MakesRow delete_acts hand (λ (t : TopicBeside). t.partitions) (λ t x. entry t.name x.0) answers_one row_one
  makes_row = record {
    row = λ t x es ans. row_step x.0 (shard_of topics t.name x.0) x.1 es ans;
    count = λ t x es ans e. count_step x.0 (shard_of topics t.name x.0) x.1 es ans e;
  }

  abbrev entries : List DeleteRecordsTopic → List (Entry Target DeleteRecordsPartitionResult)
  entries ts = flat_map (target_entries topics) ts

  entries_beside : (name : List ℕ) (xs : List (DeleteRecordsPartition × DeleteAnswer)) → map (entry name) (map (λ x. x.0) xs) ≡ map (λ x. entry name x.0) xs
  entries_beside name [] = refl
  entries_beside name (x ∷ xs) = ap (λ l. entry name x.0 ∷ l) (entries_beside name xs)

  entries_told : (told : List TopicBeside) →
      entries (map request_topic told) ≡ entries_in delete_acts hand (λ (t : TopicBeside). t.partitions) (λ t x. entry t.name x.0) told
  entries_told [] = refl
  entries_told (t ∷ told) =
      ap (λ l. l ++ entries (map request_topic told)) (entries_beside t.name t.partitions)
      ∙ ap (λ l. map (λ (x : DeleteRecordsPartition × DeleteAnswer). entry t.name x.0) t.partitions ++ l) (entries_told told)

  under_topics : (told : List TopicBeside) →
      results_by_topic (map target_shape (map request_topic told)) (flat_map (λ t. map (row_one t) t.partitions) told) ≡ map (own_topic topics) told
  under_topics [] = refl
  under_topics (t ∷ told) =
      let own = row_one t in
      let first = λ (x : DeleteRecordsPartition × DeleteAnswer). x.0 in
      let rest = flat_map (λ (s : TopicBeside). map (row_one s) s.partitions) told in
      let shape = map target_shape (map request_topic told) in
      ap (λ l. record { name = t.name; partitions = l } ∷ results_by_topic shape (drop (length (map first t.partitions)) (map own t.partitions ++ rest)))
      (took own first t.partitions rest)
      ∙ ap (λ l. own_topic topics t ∷ results_by_topic shape l) (left_over own first t.partitions rest)
      ∙ ap (λ l. own_topic topics t ∷ l) (under_topics told)

of_request : (topics : List Topic) (request : DeleteRecordsRequest) →
    delete_talk topics request ≡ talk delete_acts (hand_of request) (flat_map (target_entries topics) request.topics) []
of_request topics request = (means_entries delete_acts).begins (hand_of request) (flat_map (target_entries topics) request.topics)

pub tells_start : TellsItsStart
tells_start = record {
  asks = λ topics request answers.
      let hand = hand_of request in
      ap (λ t. talk_parts t answers) (of_request topics request)
      ∙ groups_ask delete_acts hand (λ (t : DeleteRecordsTopic). t.partitions) (λ t. entry topics hand t.name) (λ question answer. refl)
      (λ t p. parts_by (shard_of topics t.name p) p.offset) (has_parts topics hand) request.topics answers;
  says_own = λ topics timeout told.
      let request = request_of timeout told in
      let hand = hand_of request in
      let ans = flat_map (answers_in topics) told in
      ap (λ t. talk_reply t ans) (of_request topics request)
      ∙ ap (λ es. talk_reply (talk delete_acts hand es []) ans) (entries_told topics hand told)
      ∙ groups_say delete_acts hand (λ (t : TopicBeside). t.partitions) (λ t x. entry topics hand t.name x.0)
      (answers_one topics hand) (row_one topics hand) (makes_row topics hand) (λ question answer. refl) told
      ∙ ap (λ l. Some (delete_reply l)) (under_topics topics hand told);
}
