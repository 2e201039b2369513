-- What a reply to ShareFetch grants, and where one can't be so (KIP-932: acquired records are ranges of offsets in the batches beside
-- them; Apache Kafka documentation, "Record Batch"). A place is that of the first element, in the order of the reply, at which it fails.
-- For example behind the batch of the offsets 0 to 2 the elements 0..1 and 2..2 grant three offsets, and 2..3 isn't covered.
use Rattle.std.specs.Prelude.{◌≡◌, ◌+◌, ◌-◌, ◌≤◌, ℕ, ℤ, pos, Bool, not, List, [], ◌∷◌, ◌++◌, length, map, Option, Some, None, Result, Ok, Err, ◌⊎◌}
use Rattle.std.specs.Bool.{MatchBool}
use Rattle.std.specs.Ordering.{int_eq}
use Rattle.msgs_share.specs.declared.share_fetch_reply.AcquiredRecords.{AcquiredRecords}
use Rattle.msgs_share.specs.declared.share_topic.ShareTopic.{ShareTopic}
use Rattle.rec_batch.specs.declared.form.Form.TheVariants.{Stored}
use Rattle.rec_batch.specs.Batches.{IsBatch, at_least_zero}
use Rattle.rec_batch.specs.Fields.{base_offset, last_offset_delta}
use Rattle.rec_batch.specs.Grammar.{Record}
use Rattle.share_client.specs.declared.batches.Span.{Span}
use Rattle.share_client.specs.declared.fetched.LocatedPartition.{LocatedPartition}
use Rattle.share_client.specs.declared.located.Located.{Located}

-- ---- batches

-- a stored batch, and its records
pub record Batch : Type 0 where
  pub bytes : List ℕ
  pub records : List Record

-- its first offset and its last one
abbrev pub span_of : Batch → Span
span_of b = record { base = at_least_zero (base_offset b.bytes); last = at_least_zero (base_offset b.bytes) + at_least_zero (last_offset_delta b.bytes) }

-- a stored batch that begins at this offset or above it
abbrev pub BeginsFrom : ℕ → Batch → Type 0
BeginsFrom next b = IsBatch Stored b.bytes b.records × (next ≤ (span_of b).base)

-- The bytes are these stored batches one after another, each above the one before it.
abbrev pub AreStored : ℕ → List ℕ → List Batch → Type 0
AreStored next bytes [] = bytes ≡ []
AreStored next bytes (b ∷ batches) = BeginsFrom next b × ((rest : List ℕ) × (bytes ≡ b.bytes ++ rest) × AreStored ((span_of b).last + 1) rest batches)

-- no front of the bytes is a stored batch that begins at this offset or above it
abbrev pub BeginsNone : ℕ → List ℕ → Type 0
BeginsNone next bytes = (b : Batch) (rest : List ℕ) → bytes ≡ b.bytes ++ rest → BeginsFrom next b → ⊥

-- Behind these stored batches, which take so many bytes, something stands that is none.
abbrev pub AreBroken : ℕ → List ℕ → List Batch → ℕ → Type 0
AreBroken next bytes [] len = (len ≡ 0) × (0 + 1 ≤ length bytes) × BeginsNone next bytes
AreBroken next bytes (b ∷ batches) len = BeginsFrom next b × ((rest : List ℕ) × (others : ℕ) × (bytes ≡ b.bytes ++ rest)
    × (len ≡ length b.bytes + others) × AreBroken ((span_of b).last + 1) rest batches others)

-- ---- granted offsets

-- the offset is one of these batches'
abbrev pub Holds : List Span → ℕ → Type 0
Holds [] n = ⊥
Holds (s ∷ spans) n = ((s.base ≤ n) × (n ≤ s.last)) ⊎ Holds spans n

abbrev pub Covers : List Span → ℕ → ℕ → Type 0
Covers spans first last = (n : ℕ) → first ≤ n → n ≤ last → Holds spans n

-- An element grants the offsets from `first` to `last`: at `next` or above, in the batches, and no more than are left.
pub record Grants (spans : List Span) (next left : ℕ) (a : AcquiredRecords) (first last : ℕ) : Type 0 where
  pub first_is : a.first_offset ≡ pos first
  pub last_is : a.last_offset ≡ pos last
  pub order : first ≤ last
  pub above : next ≤ first
  pub few : last + 1 ≤ first + left
  pub covered : Covers spans first last

abbrev pub GrantsNone : List Span → ℕ → ℕ → AcquiredRecords → Type 0
GrantsNone spans next left a = (first last : ℕ) → Grants spans next left a first last → ⊥

-- what the elements say: how many offsets are left behind them, or the place of the first one that can't be
abbrev pub AreGrants : List Span → ℕ → ℕ → List (Located AcquiredRecords) → Result ℕ ℕ → Type 0
AreGrants spans next left [] told = told ≡ Ok left
AreGrants spans next left (a ∷ others) told = (GrantsNone spans next left a.item × (told ≡ Err a.place))
    ⊎ ((first : ℕ) × (last : ℕ) × Grants spans next left a.item first last × AreGrants spans (last + 1) (first + left - (last + 1)) others told)

-- ---- partitions

-- the bytes of the batches, which null has none of
abbrev pub content_of : Option (Located (List ℕ)) → List ℕ
content_of None = []
content_of (Some records) = records.item

abbrev pub place_of : Option (Located (List ℕ)) → ℕ
place_of None = 0
place_of (Some records) = records.place

-- what a partition's batches and its acquired records say
abbrev pub IsFetched : ℕ → LocatedPartition → Result ℕ ℕ → Type 0
IsFetched left p told = ((batches : List Batch) × (len : ℕ) × AreBroken 0 (content_of p.records) batches len × (told ≡ Err (place_of p.records + len)))
    ⊎ ((batches : List Batch) × AreStored 0 (content_of p.records) batches × AreGrants (map span_of batches) 0 left p.acquired_records told)

-- a partition: its topic's id and its number
abbrev pub Named : Type 0
Named = List ℕ × ℤ

abbrev pub StandsIn : List Named → Named → Type 0
StandsIn [] name = ⊥
StandsIn (other ∷ names) name = (name ≡ other) ⊎ StandsIn names name

-- a partition's entry in the reply, with its topic's id
abbrev pub Entry : Type 0
Entry = List ℕ × Located LocatedPartition

abbrev pub name_of : Entry → Named
name_of e = (e.0, e.1.item.partition_index)

abbrev pub entries_of : ShareTopic (Located LocatedPartition) → List Entry
entries_of t = map (λ p. (t.topic_id, p)) t.partitions

abbrev pub is_passed : Entry → Bool
is_passed e = not (int_eq e.1.item.error_code (pos 0))

-- What the entries say behind partitions that were named: nothing, or the place of the first element that can't be. Those with an error
-- are passed over.
abbrev pub AreFetched : List Named → ℕ → List Entry → Option ℕ → Type 0
AreFetched named left [] told = told ≡ None
AreFetched named left (e ∷ others) told = MatchBool (is_passed e) (AreFetched named left others told)
    ((StandsIn named (name_of e) × (told ≡ Some e.1.place))
    ⊎ ((StandsIn named (name_of e) → ⊥)
    × (((place : ℕ) × IsFetched left e.1.item (Err place) × (told ≡ Some place))
    ⊎ ((rest : ℕ) × IsFetched left e.1.item (Ok rest) × AreFetched (name_of e ∷ named) rest others told))))
