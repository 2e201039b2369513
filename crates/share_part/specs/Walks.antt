-- The acquisition walk: which records a share fetch acquires, under its limits (KIP-932; the window of 2000 slots and the limits by whole
-- batches are this project's own). The walk goes over the first 2000 slots from the start offset, one at a time. An available slot is
-- taken. The walk ends where the record limit is used up, and at an available slot whose batch isn't in the answer yet, doesn't fit the
-- bytes that are left, and isn't the first batch of the reply.
-- Worked example: a log has batches from 0 to 1 and from 5 to 6, of 80 bytes each; 0 is held. With 500 records and 80 bytes, 1 is taken
-- and the walk ends at 5; the answer has the first batch whole. With 0 bytes it is the same where no batch is in the reply yet, and
-- nothing is taken where one is.
use Rattle.std.specs.Prelude.{◌≡◌, ◌≤◌, ◌<◌, ◌-◌, ◌+◌, ◌^◌, ℕ, zero, suc, List, [], ◌∷◌, ◌++◌, length}
use Rattle.std.specs.Prelude.{Option, Some, None, Bool, false, nat_le, nat_eq, ◌&&◌, ◌||◌, if◌then◌else◌}
use Rattle.std.specs.Option.{option_map}
use Rattle.share_model.specs.Logs.{Batch}
use Rattle.share_model.specs.declared.hold.Grant.{Grant}
use Rattle.share_part.specs.Slots.{covers, batch_at, slots_from}
use Rattle.share_part.specs.Tables.{Table, delivery_of}
use Rattle.share_part.specs.declared.limits.Limits.{Limits}

-- how far a walk has come
pub record Walk : Type 0 where
  -- the limits that are left
  pub records : ℕ
  pub bytes : ℕ
  pub first : Bool
  -- the last batch of the answer; as slots come in order, a batch that is in the answer already is this one
  pub newest : Option Batch
  -- the offsets that are taken, each with its delivery count, and the batches of the answer
  pub taken : List (ℕ × ℕ)
  pub batches : List Batch

abbrev pub begun : Limits → Walk
begun limits = record { records = limits.records; bytes = limits.bytes; first = limits.first; newest = None; taken = []; batches = [] }

-- the batch of the slot is in the answer already
abbrev pub in_answer : Option Batch → ℕ → Bool
in_answer None slot = false
in_answer (Some b) slot = covers b slot

abbrev pub fits : Walk → Batch → Bool
fits walk b = walk.first || nat_le (length b.bytes) walk.bytes

-- one batch more in the answer, whole
abbrev pub with_batch : Walk → Batch → Walk
with_batch walk b = record {
  records = walk.records;
  bytes = walk.bytes - length b.bytes;
  first = false;
  newest = Some b;
  taken = walk.taken;
  batches = walk.batches ++ b ∷ [];
}

-- one record more is taken
abbrev pub with_slot : ℕ → ℕ → Walk → Walk
with_slot slot count walk = record {
  records = walk.records - 1;
  bytes = walk.bytes;
  first = walk.first;
  newest = walk.newest;
  taken = walk.taken ++ (slot, count) ∷ [];
  batches = walk.batches;
}

abbrev pub new_batch : Walk → Option Batch → Option Walk
new_batch walk None = None
new_batch walk (Some b) = if fits walk b then Some (with_batch walk b) else None

-- the batch of the slot is in the answer or comes into it; none where it can't
abbrev pub with_batch_of : Walk → ℕ → Option Batch → Option Walk
with_batch_of walk slot batch = if in_answer walk.newest slot then Some walk else new_batch walk batch

abbrev pub taking : Walk → ℕ → ℕ → Option Batch → Option Walk
taking walk slot count batch = if nat_eq walk.records 0 then None else option_map (with_slot slot count) (with_batch_of walk slot batch)

abbrev pub at_slot : Walk → ℕ → Option Batch → Option ℕ → Option Walk
at_slot walk slot batch None = Some walk
at_slot walk slot batch (Some count) = taking walk slot count batch

-- one slot: it is passed over where it isn't available, and else taken; none where the walk ends at it
abbrev pub after_slot : List Batch → Table → Walk → ℕ → Option Walk
after_slot log table walk slot = at_slot walk slot (batch_at log slot) (delivery_of table slot)

abbrev pub go_on : Walk → (Walk → Walk) → Option Walk → Walk
go_on walk more None = walk
go_on walk more (Some next) = more next

-- over these slots, up to where it ends
abbrev pub walked : List Batch → Table → List ℕ → Walk → Walk
walked log table [] walk = walk
walked log table (slot ∷ slots) walk = go_on walk (λ next. walked log table slots next) (after_slot log table walk slot)

-- over the first 2000 slots from the start
abbrev pub acquired : List Batch → Table → Limits → Walk
acquired log table limits = walked log table (slots_from 2000 log table.start) (begun limits)

-- ---- how an answer tells it

-- so many offsets from this one on, each with this count
abbrev pub offsets_with : ℕ → ℕ → ℕ → List (ℕ × ℕ)
offsets_with first zero count = []
offsets_with first (suc n) count = (first, count) ∷ offsets_with (first + 1) n count

-- the offsets of grants, one by one, with their counts
abbrev pub written_out : List Grant → List (ℕ × ℕ)
written_out [] = []
written_out (g ∷ grants) = offsets_with g.first ((g.last + 1) - g.first) g.count ++ written_out grants

-- the next grant can be joined to this one
abbrev pub joins : Grant → Grant → Bool
joins g next = nat_eq next.first (g.last + 1) && nat_eq next.count g.count

abbrev pub FollowsGrant : Grant → List Grant → Type 0
FollowsGrant g [] = Unit {0}
FollowsGrant g (next ∷ grants) = joins g next ≡ false

-- no grant is empty, and no two neighbours can be joined
abbrev pub AreApart : List Grant → Type 0
AreApart [] = Unit {0}
AreApart (g ∷ grants) = (g.first ≤ g.last) × FollowsGrant g grants × AreApart grants

-- the grants are the maximal runs of consecutive offsets with equal counts
pub record AreRunsOf (taken : List (ℕ × ℕ)) (grants : List Grant) : Type 0 where
  pub offsets : written_out grants ≡ taken
  pub apart : AreApart grants

-- the ranges of a grant: it isn't empty, its offsets are ones that a log may have, and its records were delivered ten times at most
abbrev pub IsSmallGrant : Grant → Type 0
IsSmallGrant g = (g.first ≤ g.last) × (g.last < 2 ^ 62) × (g.count ≤ 10)

-- the bytes of batches, one after another
abbrev pub bytes_in : List Batch → List ℕ
bytes_in [] = []
bytes_in (b ∷ batches) = b.bytes ++ bytes_in batches
