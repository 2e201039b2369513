-- A segment: record batches one after another, as the file of a log's segment has them. Each says in its header how
-- long it is (Apache Kafka documentation, "Log" and "Record Batch"). What is refused, and the place that is told of it,
-- are this project's own.
-- For example a batch of 69 bytes with the record 0 and one of 61 bytes with base 5 and last delta 4 are a segment
-- behind an empty log. Behind a log that ends at 6 the first one is refused, at 0.
use Rattle.std.specs.Prelude.{◌≡◌, ◌≢◌, ◌<◌, ◌≤◌, ◌+◌, ℕ, List, [], ◌++◌, length}
use Rattle.std.specs.List.{flat_map}
use Rattle.session_script.specs.Script.{longest}
use Rattle.share_model.specs.Logs.{Batch}
use Rattle.part_log.specs.Logs.{IsStoredLog, MayFollow}

-- the bytes of these batches
abbrev pub segment_of : List Batch → List ℕ
segment_of batches = flat_map (λ (b : Batch). b.bytes) batches

-- The text begins with these batches, which may stand behind this log one after another, and this rest follows.
pub record Begins (text : List ℕ) (log batches : List Batch) (rest : List ℕ) : Type 0 where
  pub parts : text ≡ segment_of batches ++ rest
  pub sound : IsStoredLog (log ++ batches)
  pub within : length (segment_of batches) ≤ longest

-- the text is the segment of these batches
abbrev pub IsSegment : List ℕ → List Batch → List Batch → Type 0
IsSegment text log batches = Begins text log batches []

-- at this place of a segment no batch that may stand behind the log is whole at the front of the rest
abbrev pub HasNoBatch : ℕ → List Batch → List ℕ → Type 0
HasNoBatch place log rest = (b : Batch) (more : List ℕ) → MayFollow log b → rest ≡ b.bytes ++ more
    → longest < place + length b.bytes

-- the batches that stand whole, one after another from the first, and may stand behind the log
abbrev pub StandWhole : List ℕ → List Batch → List Batch → Type 0
StandWhole text log batches = (rest : List ℕ) × Begins text log batches rest
    × HasNoBatch (length (segment_of batches)) (log ++ batches) rest

-- behind these batches something follows, which is no such batch
abbrev pub IsRefused : List ℕ → List Batch → List Batch → Type 0
IsRefused text log batches =
    (rest : List ℕ) × Begins text log batches rest × HasNoBatch (length (segment_of batches)) (log ++ batches) rest
    × (rest ≢ [])

-- a text has one reading as batches that may stand behind a log, and a rest that begins with none
abbrev pub HasOneReading : List ℕ → List Batch → Type 0
HasOneReading text log = (batches others : List Batch) (rest left : List ℕ) →
    Begins text log batches rest → HasNoBatch (length (segment_of batches)) (log ++ batches) rest →
    Begins text log others left → HasNoBatch (length (segment_of others)) (log ++ others) left → (batches ≡ others)
    × (rest ≡ left)
