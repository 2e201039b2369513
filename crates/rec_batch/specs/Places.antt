-- Where the records of a stored batch stand, and their values (Apache Kafka documentation, "Record Batch" and "Record").
--
-- Worked example: in the 85 bytes of the batch with the records a, b and c at the offsets 0, 1 and 2 the records begin at 61, 69 and 77, and
-- the value of the second one is the byte at 75.
use Rattle.std.specs.Prelude.{◌≡◌, ◌+◌, ℕ, List, ◌++◌, length, Option, Some, None, MatchOption}
use Rattle.flex_fields.specs.Grammar.{AreMany}
use Rattle.rec_batch.specs.declared.form.Form.TheVariants.{Stored}
use Rattle.rec_batch.specs.declared.places.RecordAt.{RecordAt}
use Rattle.rec_batch.specs.Batches.{IsBatch}
use Rattle.rec_batch.specs.Fields.{records_part}
use Rattle.rec_batch.specs.Grammar.{AreHeaders, IsRecord, Record}

-- The bytes are a stored batch of the records of both lists. The first ones end at the place, where the others begin.
pub record SplitsAt (bytes : List ℕ) (place : ℕ) (before behind : List Record) : Type 0 where
  pub batch : IsBatch Stored bytes (before ++ behind)
  pub front : List ℕ
  pub rest : List ℕ
  pub parts : records_part bytes ≡ front ++ rest
  pub at : place ≡ 61 + length front
  pub earlier : AreMany IsRecord front before
  pub later : AreMany IsRecord rest behind

-- So many bytes from the place on are the value of a record, and behind them stand its headers, up to its end.
pub record IsValueAt (bytes : List ℕ) (place len end : ℕ) (value : List ℕ) (headers : List (List ℕ × Option (List ℕ))) : Type 0 where
  pub front : List ℕ
  pub tail : List ℕ
  pub rest : List ℕ
  pub is : bytes ≡ front ++ (value ++ (tail ++ rest))
  pub at : place ≡ length front
  pub len_is : len ≡ length value
  pub headers_are : AreHeaders tail headers
  pub end_is : end ≡ place + (len + length tail)

-- the place and length of the record's value, and nothing for null
abbrev pub ShowsValue : List ℕ → Record → RecordAt → Type 0
ShowsValue bytes r found = MatchOption found.value (r.value ≡ None)
    (λ v. (value : List ℕ) × (r.value ≡ Some value) × IsValueAt bytes v.0 v.1 found.next value r.headers)
