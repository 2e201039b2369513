-- The disks of a bay in memory. This project's own. Worked example: a name that was never taken has an empty disk; one that
-- was put back with the content `kept` has that disk, also after a `take` that failed.
use Rattle.std.specs.Prelude.{◌≡◌, ℕ, suc, if◌then◌else◌, Bool, true, false, List, [], ◌∷◌, Some, None, nat_eq}
use Rattle.std.specs.Cmp.Lexicographic.{pointwise}
use Rattle.std.proofs.Math.ListN.{set, get_or}
use Rattle.std.specs.declared.option.Option.{Option}
use Rattle.edge_io.specs.declared.fault.Armed.TheVariants.{Nothing}
use Rattle.edge_mem.specs.Past.{DiskState}
use Rattle.edge_mem.specs.declared.bay.Slot.{Slot}

-- a disk with no content, on which nothing has happened
abbrev pub fresh : DiskState
fresh = record { past = record { first = []; events = [] }; armed = Nothing; arms = 0; starved = false; faults = 0 }

-- the same bytes
abbrev pub same_name : List ℕ → List ℕ → Bool
same_name a b = pointwise nat_eq a b

-- one slot further
abbrev pub behind : Option ℕ → Option ℕ
behind None = None
behind (Some n) = Some (suc n)

-- the number of the slot of a name, from 0 on
abbrev pub slot_index : List Slot → List ℕ → Option ℕ
slot_index [] name = None
slot_index (s ∷ slots) name = if same_name s.name name then Some 0 else behind (slot_index slots name)

abbrev pub found : List Slot → List ℕ → Option Slot
found [] name = None
found (s ∷ slots) name = if same_name s.name name then Some s else found slots name

abbrev pub disk_or : Option DiskState → DiskState
disk_or None = fresh
disk_or (Some d) = d

abbrev pub is_empty : Option DiskState → Bool
is_empty None = true
is_empty (Some d) = false

abbrev pub disk_in : Option Slot → DiskState
disk_in None = fresh
disk_in (Some s) = disk_or s.disk

abbrev pub out_in : Option Slot → Bool
out_in None = false
out_in (Some s) = is_empty s.disk

abbrev pub taken_in : Option Slot → ℕ
taken_in None = 0
taken_in (Some s) = s.count

-- what contracts see of a bay in memory
pub record BayState : Type 0 where
  pub slots : List Slot
  -- the numbers of the calls of `take` that fail, and that of the next call, from 0 on
  pub failing : List ℕ
  pub calls : ℕ
  pub starved : Bool
  pub faults : ℕ

-- what `take` gives for a name; a disk that is new to the bay is empty
abbrev pub disk_at : BayState → List ℕ → DiskState
disk_at b name = disk_in (found b.slots name)

abbrev pub out_at : BayState → List ℕ → Bool
out_at b name = out_in (found b.slots name)

abbrev pub taken_at : BayState → List ℕ → ℕ
taken_at b name = taken_in (found b.slots name)

-- the disk of a slot was taken
pub record Taken (old : List Slot) (at : ℕ) (d : Slot) (disk : DiskState) (new : List Slot) : Type 0 where
  pub is : disk ≡ disk_or (get_or old at d).disk
  pub set_out : new ≡ set old at (record { name = (get_or old at d).name; disk = None; count = disk.faults })

-- a disk was put into a slot
pub record Put (old : List Slot) (at : ℕ) (d : Slot) (disk : DiskState) (new : List Slot) : Type 0 where
  pub set_in : new ≡ set old at (record { name = (get_or old at d).name; disk = Some disk; count = (get_or old at d).count })
