-- Each partition of a ListOffsets is told by its own log.
use Rattle.std.proofs.Common.{◌≡◌, ◌∙◌, ℕ, List, [], ◌∷◌, ◌++◌, Option, Some, None, length, drop, map, refl, ap}
use Rattle.std.specs.List.{flat_map}
use Rattle.topic_conf.specs.declared.topic.Topic.{Topic}
use Rattle.msgs_admin.specs.declared.list_offsets_reply.FoundOffset.{FoundOffset}
use Rattle.msgs_admin.specs.declared.list_offsets_request.ListOffsetsPartition.{ListOffsetsPartition}
use Rattle.msgs_admin.specs.declared.named_topic.NamedTopic.{NamedTopic}
use Rattle.call_fold.specs.declared.call.Entry.{Entry}
use Rattle.call_fold.proofs.Grouped.{took, left_over}
use Rattle.describe_calls.specs.declared.offsets.End.{End}
use Rattle.describe_calls.specs.declared.offsets.LogEnds.{LogEnds}
use Rattle.describe_calls.specs.declared.offsets.OffsetAsk.{OffsetAsk}
use Rattle.describe_calls.specs.Filled.{filled, questions_of}
use Rattle.describe_calls.specs.Offsets.{asked_entry, end_asked, offset_entries, offset_entry, offset_row, offsets_by_topic, offsets_shape}
use Rattle.describe_calls.specs.OffsetsTold.{TellsItsEnds, answers_by, answers_in, own_row, own_topic, questions_by, questions_in, request_topic, shard_of}
use Rattle.describe_calls.proofs.FilledBy.{filled_all, map_twice, questions_all}

abbrev Beside : Type 0
Beside = ListOffsetsPartition × LogEnds

-- the entry by what its timestamp stands for
abbrev entry_by : ListOffsetsPartition → Option ℕ → Option End → Entry OffsetAsk FoundOffset
entry_by p None end = offset_entry p None
entry_by p (Some shard) end = asked_entry p.partition_index shard end

same_entry : (p : ListOffsetsPartition) (shard : Option ℕ) → offset_entry p shard ≡ entry_by p shard (end_asked p.timestamp)
same_entry p None = refl
same_entry p (Some shard) = refl

question_by : (p : ListOffsetsPartition) (shard : Option ℕ) (end : Option End) (es : List (Entry OffsetAsk FoundOffset)) →
    questions_of (entry_by p shard end ∷ es) ≡ questions_by p shard end ++ questions_of es
question_by p None end es = refl
question_by p (Some shard) None es = refl
question_by p (Some shard) (Some end) es = refl

row_by : (p : ListOffsetsPartition) (shard : Option ℕ) (end : Option End) (ends : LogEnds) (es : List (Entry OffsetAsk FoundOffset)) (ans : List LogEnds) →
    filled offset_row (entry_by p shard end ∷ es) (answers_by shard end ends ++ ans) ≡ own_row p shard end ends ∷ filled offset_row es ans
row_by p None end ends es ans = refl
row_by p (Some shard) None ends es ans = refl
row_by p (Some shard) (Some end) ends es ans = refl

module _ (topics : List Topic) where
  abbrev entry : List ℕ → ListOffsetsPartition → Entry OffsetAsk FoundOffset
  entry name p = offset_entry p (shard_of topics name p)

  abbrev question_own : List ℕ → ListOffsetsPartition → List OffsetAsk
  question_own name p = questions_by p (shard_of topics name p) (end_asked p.timestamp)

  asks_one : (name : List ℕ) (p : ListOffsetsPartition) (es : List (Entry OffsetAsk FoundOffset)) →
      questions_of (entry name p ∷ es) ≡ question_own name p ++ questions_of es
  asks_one name p es =
      ap (λ (e : Entry OffsetAsk FoundOffset). questions_of (e ∷ es)) (same_entry p (shard_of topics name p))
      ∙ question_by p (shard_of topics name p) (end_asked p.timestamp) es

  asks_all : (request : List (NamedTopic ListOffsetsPartition)) →
      questions_of (flat_map (offset_entries topics) request) ≡ flat_map (questions_in topics) request
  asks_all [] = refl
  asks_all (t ∷ request) =
      questions_all (entry t.name) (question_own t.name) (asks_one t.name) t.partitions (flat_map (offset_entries topics) request)
      ∙ ap (λ l. questions_in topics t ++ l) (asks_all request)

  abbrev row_own : List ℕ → Beside → FoundOffset
  row_own name x = own_row x.0 (shard_of topics name x.0) (end_asked x.0.timestamp) x.1

  abbrev answers_own : List ℕ → Beside → List LogEnds
  answers_own name x = answers_by (shard_of topics name x.0) (end_asked x.0.timestamp) x.1

  makes_one : (name : List ℕ) (x : Beside) (es : List (Entry OffsetAsk FoundOffset)) (ans : List LogEnds) →
      filled offset_row (entry name x.0 ∷ es) (answers_own name x ++ ans) ≡ row_own name x ∷ filled offset_row es ans
  makes_one name x es ans =
      ap (λ (e : Entry OffsetAsk FoundOffset). filled offset_row (e ∷ es) (answers_own name x ++ ans)) (same_entry x.0 (shard_of topics name x.0))
      ∙ row_by x.0 (shard_of topics name x.0) (end_asked x.0.timestamp) x.1 es ans

  rows_all : (told : List (NamedTopic Beside)) →
      filled offset_row (flat_map (offset_entries topics) (map request_topic told)) (flat_map (answers_in topics) told)
      ≡ flat_map (λ t. map (row_own t.name) t.partitions) told
  rows_all [] = refl
  rows_all (t ∷ told) =
      let es = flat_map (offset_entries topics) (map request_topic told) in
      let ans = flat_map (answers_in topics) told in
      ap (λ l. filled offset_row (l ++ es) (answers_in topics t ++ ans)) (map_twice (entry t.name) (λ (x : Beside). x.0) t.partitions)
      ∙ filled_all (λ (x : Beside). entry t.name x.0) offset_row (answers_own t.name) (row_own t.name) (makes_one t.name) t.partitions es ans
      ∙ ap (λ l. map (row_own t.name) t.partitions ++ l) (rows_all told)

  under_topics : (told : List (NamedTopic Beside)) →
      offsets_by_topic (map offsets_shape (map request_topic told)) (flat_map (λ t. map (row_own t.name) t.partitions) told) ≡ map (own_topic topics) told
  under_topics [] = refl
  under_topics (t ∷ told) =
      let own = row_own t.name in
      let first = λ (x : Beside). x.0 in
      let rest = flat_map (λ (s : NamedTopic Beside). map (row_own s.name) s.partitions) told in
      let shape = map offsets_shape (map request_topic told) in
      ap (λ l. record { name = t.name; partitions = l } ∷ offsets_by_topic shape (drop (length (map first t.partitions)) (map own t.partitions ++ rest)))
      (took own first t.partitions rest)
      ∙ ap (λ l. own_topic topics t ∷ offsets_by_topic shape l) (left_over own first t.partitions rest)
      ∙ ap (λ l. own_topic topics t ∷ l) (under_topics told)

pub tells_ends : TellsItsEnds
tells_ends = record {
  asks = λ topics request. asks_all topics request;
  says_own = λ topics told.
      ap (offsets_by_topic (map offsets_shape (map request_topic told))) (rows_all topics told) ∙ under_topics topics told;
}
