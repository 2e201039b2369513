-- What a walk keeps in memory of what it has taken. Private clauses cite this alone.
-- For example a walk that took 0 and 1 with count 1 and then 5 keeps the grant from 0 to 1, with the one at 5 growing, and the numbers of
-- their batches.
use Rattle.std.specs.Prelude.{◌≡◌, ◌≤◌, ◌<◌, ◌+◌, ◌-◌, ◌++◌, ℕ, zero, suc, List, [], ◌∷◌, length, Option, Some, None, IfSome, IsSome, ◌⊎◌, Bool, true, false, filter, is_none}
use Rattle.std.specs.List.{AllByRecursion}
use Rattle.std.specs.Prelude.{option_to_list}
use Rattle.share_model.specs.Held.{Held, hold_at}
use Rattle.share_model.specs.Logs.{Batch, IsAt, IsSlot}
use Rattle.share_model.specs.Runs.{row_at}
use Rattle.share_model.specs.declared.hold.Grant.{Grant}
use Rattle.share_model.specs.declared.hold.Hold.{Hold}
use Rattle.share_model.specs.declared.row.Row.{Row}
use Rattle.share_model.specs.declared.run.Run.{Run}
use Rattle.share_model.specs.declared.batch_place.BatchPlace.{BatchPlace}
use Rattle.share_part.specs.Tables.{Table, delivery_of}
use Rattle.share_part.specs.Walks.{Walk, AreRunsOf, IsSmallGrant, after_slot, bytes_in, offsets_with}
use Rattle.share_part.specs.declared.collector.Collector.{Collector}
use Rattle.share_part.specs.declared.plan.Plan.{Plan}

-- the batches with these numbers
abbrev pub AreAt : List Batch → List ℕ → List Batch → Type 0
AreAt log [] [] = Unit {0}
AreAt log [] (b ∷ batches) = ⊥
AreAt log (n ∷ numbers) [] = ⊥
AreAt log (n ∷ numbers) (b ∷ batches) = IsAt log n b × AreAt log numbers batches

-- the offsets of the batch
abbrev pub IsNewest : Option BatchPlace → Option Batch → Type 0
IsNewest None None = Unit {0}
IsNewest None (Some b) = ⊥
IsNewest (Some place) None = ⊥
IsNewest (Some place) (Some b) = (place.base ≡ b.base) × (place.last ≡ b.last)

-- the batch, if there is one, is one of the log
abbrev pub IsOfLog : List Batch → Option Batch → Type 0
IsOfLog log None = Unit {0}
IsOfLog log (Some b) = (n : ℕ) × IsAt log n b

-- the grants that are closed, and the one that is growing
abbrev pub grants_of : Collector → List Grant
grants_of c = c.grants.items ++ option_to_list c.growing

-- where none is growing, none is closed
abbrev pub OpensFirst : Option Grant → List Grant → Type 0
OpensFirst None grants = grants ≡ []
OpensFirst (Some grant) grants = Unit {0}

pub record Collects (log : List Batch) (c : Collector) (walk : Walk) : Type 0 where
  pub records : walk.records ≡ c.budget.records
  pub bytes : walk.bytes ≡ c.budget.bytes
  pub first : walk.first ≡ c.budget.first
  pub newest : IsNewest c.newest walk.newest
  pub of_log : IsOfLog log walk.newest
  pub opens : OpensFirst c.growing c.grants.items
  pub taken : AreRunsOf walk.taken (grants_of c)
  pub small : AllByRecursion IsSmallGrant (grants_of c)
  pub batches : AreAt log c.numbers.items walk.batches
  pub count : c.budget.count ≡ length walk.taken
  pub size : c.budget.size ≡ length (bytes_in walk.batches)

-- the batch of a slot: where it is one of the answer's, with the walk that has it, and else with the walk as it was
abbrev pub Goes : List Batch → Collector → Walk → Bool → Option Walk → Type 0
Goes log c walk true next = (w : Walk) × (next ≡ Some w) × Collects log c w
Goes log c walk false next = (next ≡ None) × Collects log c walk

-- ---- many slots at once

-- the offsets from one on, so many of them, are slots
abbrev pub AreSlots : List Batch → ℕ → ℕ → Type 0
AreSlots log slot n = (offset : ℕ) → slot ≤ offset → offset < slot + n → IsSlot log offset

-- each offset from one to another goes out with this delivery count
abbrev pub GoOut : Table → ℕ → ℕ → ℕ → Type 0
GoOut table first last count = (offset : ℕ) → first ≤ offset → offset ≤ last → delivery_of table offset ≡ Some count

-- the batch covers the slot
abbrev pub CoversSlot : ℕ → Option BatchPlace → Type 0
CoversSlot slot None = ⊥
CoversSlot slot (Some place) = (place.base ≤ slot) × (slot ≤ place.last)

-- so many records more are taken, one after another
abbrev pub with_slots : (slot n count : ℕ) → Walk → Walk
with_slots slot n count walk = record {
  records = walk.records - n;
  bytes = walk.bytes;
  first = walk.first;
  newest = walk.newest;
  taken = walk.taken ++ offsets_with slot n count;
  batches = walk.batches;
}

abbrev pub and_then : Option Walk → (Walk → Option Walk) → Option Walk
and_then None more = None
and_then (Some walk) more = more walk

-- so many slots, one after another; none where the walk ends at one of them
abbrev pub after_slots : List Batch → Table → (slot n : ℕ) → Walk → Option Walk
after_slots log table slot zero walk = Some walk
after_slots log table slot (suc n) walk = and_then (after_slot log table walk slot) (λ next. after_slots log table (slot + 1) n next)

-- a walk goes over so many slots from one on, or ends at that one
abbrev pub GoesOver : List Batch → Table → Collector → Walk → ℕ → Option ℕ → Type 0
GoesOver log table c walk slot None = (after_slot log table walk slot ≡ None) × Collects log c walk
GoesOver log table c walk slot (Some n) =
    (w : Walk) × (1 ≤ n) × AreSlots log slot n × (after_slots log table slot n walk ≡ Some w) × Collects log c w

-- The offsets from a slot to a last one go out with this delivery count, if with one; where they don't, each of them is held or stored.
pub record IsStretch (rows : List Run) (held : Held) (slot last : ℕ) (count : Option ℕ) : Type 0 where
  pub order : slot ≤ last
  pub same : (offset : ℕ) → slot ≤ offset → offset ≤ last → delivery_of (record { start = 0; rows = rows; held = held }) offset ≡ count
  pub few : IfSome count (λ count. count ≤ 10)
  pub there : count ≡ None → (offset : ℕ) → slot ≤ offset → offset ≤ last → IsSome (hold_at held offset) ⊎ IsSome (row_at rows offset)

-- what is held, but for the offsets of which there is one of these rows
abbrev pub left_by : List Run → Held → Held
left_by changed held = filter (λ entry. is_none (row_at changed entry.0)) held

-- what is held or stored lies at slots
pub record LieAtSlots (log : List Batch) (rows : List Run) (held : Held) : Type 0 where
  pub held_at : (offset : ℕ) (hold : Hold) → hold_at held offset ≡ Some hold → IsSlot log offset
  pub stored_at : (offset : ℕ) (row : Row) → row_at rows offset ≡ Some row → IsSlot log offset

-- what a fetch will take, and how much it is
pub record IsPlanOf (log : List Batch) (plan : Plan) (walk : Walk) : Type 0 where
  pub taken : AreRunsOf walk.taken plan.grants.items
  pub small : AllByRecursion IsSmallGrant plan.grants.items
  pub batches : AreAt log plan.numbers.items walk.batches
  pub count : plan.count ≡ length walk.taken
  pub size : plan.size ≡ length (bytes_in walk.batches)
