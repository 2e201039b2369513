-- What the code that walks the records of a partition has before it, and what it adds to a page. The clauses of private functions cite it,
-- and no public one does.
-- For example behind the record at offset 0 of a batch of three a reader has those at 1 and 2 before it.
use Rattle.std.specs.Prelude.{◌≡◌, ◌+◌, ◌≤◌, ℕ, false, List, [], ◌∷◌, ◌++◌, length, map, flat_map}
use Rattle.msgs_share.specs.declared.share_fetch_reply.AcquiredRecords.{AcquiredRecords}
use Rattle.rec_batch.specs.Batches.{at_least_zero}
use Rattle.rec_batch.specs.Fields.{base_offset}
use Rattle.rec_batch.specs.Grammar.{Record}
use Rattle.rec_batch.specs.Places.{SplitsAt}
use Rattle.share_client.specs.declared.located.Located.{Located}
use Rattle.share_client.specs.declared.grants.Handout.{Handout}
use Rattle.share_client.specs.declared.page.Page.{Page}
use Rattle.share_client.specs.declared.reader.Reader.{Reader}
use Rattle.share_client.specs.Deliveries.{Delivery, entry_acknowledged, entry_deliveries, line}
use Rattle.share_client.specs.Grants.{AreStored, Batch, Entry, content_of, is_passed}
use Rattle.share_client.specs.Records.{OffsetRecord, from_offset, shown, shown_batch}

-- the next record of the batch begins at this place
abbrev pub Stands : List ℕ → ℕ → ℕ → List Record → Type 0
Stands bytes place base [] = Unit {0}
Stands bytes place base (r ∷ others) = (before : List Record) × SplitsAt bytes place before (r ∷ others) × (base ≡ at_least_zero (base_offset bytes))

-- these records are left before a reader
pub record Left (reader : Reader) (records : List OffsetRecord) : Type 0 where
  pub next : ℕ
  pub behind : List Record
  pub batches : List Batch
  pub stored : AreStored next reader.rest.now batches
  pub count : reader.left ≡ length behind
  pub stands : Stands reader.batch.now reader.place reader.base behind
  pub are : records ≡ map (shown reader.base) behind ++ flat_map shown_batch batches

-- No batch is left where no record of one is.
abbrev pub IsSettled : Reader → Type 0
IsSettled reader = reader.left ≡ 0 → reader.rest.now ≡ []

-- Of these records, those from an offset on are left, and perhaps more.
abbrev pub LeftFrom : ℕ → List OffsetRecord → Reader → Type 0
LeftFrom next records reader = (rest : List OffsetRecord) × Left reader rest × ((n : ℕ) → next ≤ n → from_offset n records ≡ from_offset n rest)

-- the page has these lines too
pub record Adds (ds : List Delivery) (old new : Page) : Type 0 where
  pub text : new.text ≡ old.text ++ flat_map line ds
  pub count : new.count ≡ old.count + length ds

-- the elements are in order, from an offset on
abbrev pub Rise : ℕ → List (Located AcquiredRecords) → Type 0
Rise next [] = Unit {0}
Rise next (a ∷ others) = (next ≤ at_least_zero a.item.first_offset) × (at_least_zero a.item.first_offset ≤ at_least_zero a.item.last_offset)
    × Rise (at_least_zero a.item.last_offset + 1) others

-- A partition that is looked at has stored batches, and elements in order.
abbrev pub IsSound : Entry → Type 0
IsSound e = is_passed e ≡ false → ((found : List Batch) × AreStored 0 (content_of e.1.item.records) found) × Rise 0 e.1.item.acquired_records

abbrev pub AreSound : List Entry → Type 0
AreSound [] = Unit {0}
AreSound (e ∷ es) = IsSound e × AreSound es

-- what these partitions grant was handed out
pub record Hands (es : List Entry) (old new : Handout) : Type 0 where
  pub topics : new.topics.items ≡ old.topics.items ++ flat_map entry_acknowledged es
  pub adds : Adds (flat_map entry_deliveries es) old.page new.page
