-- What the code finds out of the batches of a partition. The clauses of private functions cite it, and no public one does.
-- For example in front of a batch of 85 bytes and one more byte stands a batch, and behind it one byte.
use Rattle.std.specs.Prelude.{◌≡◌, ◌+◌, ◌≤◌, ◌↔◌, ℕ, Bool, true, false, List, [], ◌∷◌, ◌++◌, length, map, Option, Some, MatchOption, Result, Ok, Err}
use Rattle.std.specs.BTreeSet.{BTreeSet, contains}
use Rattle.std.specs.Cmp.Lexicographic.{slice_cmp}
use Rattle.std.specs.declared.cmp.Ordering.{Ordering}
use Rattle.std.specs.Ordering.{int_cmp, nat_cmp, ordering_then}
use Rattle.flex_fields.specs.declared.fault.NoMemory.{NoMemory as NoMemoryType}
use Rattle.msgs_share.specs.declared.share_fetch_reply.AcquiredRecords.{AcquiredRecords}
use Rattle.rec_batch.specs.declared.form.Form.TheVariants.{Stored}
use Rattle.rec_batch.specs.Batches.{IsBatch}
use Rattle.share_client.specs.declared.batches.Span.{Span}
use Rattle.share_client.specs.declared.covers.Run.{Run}
use Rattle.share_client.specs.declared.fault.ClientFault.{ClientFault}
use Rattle.share_client.specs.declared.fault.ClientFault.TheVariants.{Refused, Strange, NoMemory}
use Rattle.share_client.specs.declared.judge.Tally.{Tally}
use Rattle.share_client.specs.Frames.{within}
use Rattle.share_client.specs.Grants.{AreBroken, AreFetched, AreStored, Batch, BeginsFrom, Covers, Entry, Grants, Named, StandsIn, span_of}

-- a batch in front has so many bytes, or none stands there
abbrev pub IsSized : List ℕ → Option ℕ → Type 0
IsSized bytes found = MatchOption found ((b : Batch) (rest : List ℕ) → bytes ≡ b.bytes ++ rest → IsBatch Stored b.bytes b.records → ⊥)
    (λ n. (n ≤ length bytes) × ((b : Batch) (rest : List ℕ) → bytes ≡ b.bytes ++ rest → IsBatch Stored b.bytes b.records → length b.bytes ≡ n))

-- a stored batch stands in front, and this follows it
abbrev pub IsInFront : ℕ → List ℕ → Span → List ℕ → Type 0
IsInFront next bytes span rest = (b : Batch) × BeginsFrom next b × (bytes ≡ b.bytes ++ rest) × (span ≡ span_of b) × (span.base ≤ span.last)

-- batches that begin at this offset or above, each above the one before it
abbrev pub Ascend : ℕ → List Span → Type 0
Ascend next [] = Unit {0}
Ascend next (s ∷ spans) = (next ≤ s.base) × (s.base ≤ s.last) × Ascend (s.last + 1) spans

-- No element behind these offsets sees a difference between the batches and those that are left of them.
abbrev pub AreLeft : ℕ → List Span → List Span → Type 0
AreLeft next spans rest = (first last : ℕ) → next ≤ first → Covers spans first last ↔ Covers rest first last

-- These offsets are covered, and the batches that are left are those from the last offset's on.
pub record IsCovered (first last : ℕ) (spans rest : List Span) : Type 0 where
  pub covered : Covers spans first last
  pub left : AreLeft (last + 1) spans rest
  pub ascend : (next : ℕ) × Ascend next rest

-- what an element grants, and the batches that are left behind it
pub record IsGrant (spans : List Span) (next left : ℕ) (a : AcquiredRecords) (run : Run) (rest : List Span) : Type 0 where
  pub grants : Grants spans next left a run.first run.last
  pub left_are : AreLeft (run.last + 1) spans rest
  pub ascend : (n : ℕ) × Ascend n rest

-- the offsets of the stored batches that the bytes are
abbrev pub AreSpans : List ℕ → List Span → Type 0
AreSpans bytes spans = (batches : List Batch) × AreStored 0 bytes batches × (spans ≡ map span_of batches)

-- something stands in the bytes, which begin at this place, that is no stored batch
abbrev pub IsBrokenAt : ℕ → List ℕ → ClientFault → Type 0
IsBrokenAt place bytes NoMemory = Unit {0}
IsBrokenAt place bytes (Refused code) = ⊥
IsBrokenAt place bytes (Strange found) = (batches : List Batch) × (len : ℕ) × AreBroken 0 bytes batches len × (found ≡ within (place + len))

-- what was found, or where it can't be
abbrev pub IsToldAt : (Result ℕ ℕ → Type 0) → Result ℕ ClientFault → Type 0
IsToldAt told (Ok left) = told (Ok left)
IsToldAt told (Err NoMemory) = Unit {0}
IsToldAt told (Err (Strange place)) = (at : ℕ) × told (Err at) × (place ≡ within at)
IsToldAt told (Err (Refused code)) = ⊥

-- ---- partitions

abbrev pub Names : Type 0
Names = BTreeSet Named

abbrev pub name_cmp : Named → Named → Ordering
name_cmp x y = ordering_then (slice_cmp nat_cmp x.0 y.0) (int_cmp x.1 y.1)

-- the set has just these
abbrev pub Knows : Names → List Named → Type 0
Knows names named = (name : Named) → (contains name_cmp names name ≡ true) ↔ StandsIn named name

-- The name is new, and was noted, or it stood there.
abbrev pub Notes : Names → Named → Result Bool NoMemoryType → Names → Type 0
Notes old name (Err none) new = Unit {0}
Notes old name (Ok true) new = (named : List Named) → Knows old named → (StandsIn named name → ⊥) × Knows new (name ∷ named)
Notes old name (Ok false) new = (named : List Named) → Knows old named → StandsIn named name

-- What these entries say at the front of a reply, whatever follows them.
abbrev pub Fetches : List Entry → Tally → Result (Unit {0}) ClientFault → Tally → Type 0
Fetches entries old (Err NoMemory) new = Unit {0}
Fetches entries old (Err (Refused code)) new = ⊥
Fetches entries old (Err (Strange place)) new = (named : List Named) → Knows old.names named
    → (at : ℕ) × (place ≡ within at) × ((others : List Entry) → AreFetched named old.left (entries ++ others) (Some at))
Fetches entries old (Ok done) new = (named : List Named) → Knows old.names named
    → (behind : List Named) × Knows new.names behind
    × ((others : List Entry) (told : Option ℕ) → AreFetched behind new.left others told → AreFetched named old.left (entries ++ others) told)
