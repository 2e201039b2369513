-- The disks of a folder, by their names. Which disks are out, and with what count of faults each was taken. This project's own. Worked
-- example: `orders/0/log` is taken and put back with one fault more: it isn't out, and is given again when it is taken next.
use Rattle.std.specs.Prelude.{◌≡◌, ℕ, suc, if◌then◌else◌, Bool, true, false, List, [], ◌∷◌, Some, None, nat_eq, IfSome}
use Rattle.std.specs.List.{All}
use Rattle.std.specs.Cmp.Lexicographic.{pointwise}
use Rattle.std.proofs.Math.ListN.{set, get_or}
use Rattle.std.specs.declared.option.Option.{Option}
use Rattle.edge_real.specs.Files.{FileState}
use Rattle.edge_real.specs.declared.slots.Slot.{Slot}

-- the same bytes
abbrev pub same_name : List ℕ → List ℕ → Bool
same_name a b = pointwise nat_eq a b

-- one slot further
abbrev pub behind : Option ℕ → Option ℕ
behind None = None
behind (Some n) = Some (suc n)

-- the number of the slot of a name, from 0 on
abbrev pub slot_index : {F : Type 0} → List (Slot F) → List ℕ → Option ℕ
slot_index [] name = None
slot_index (s ∷ slots) name = if same_name s.name name then Some 0 else behind (slot_index slots name)

abbrev pub found : {F : Type 0} → List (Slot F) → List ℕ → Option (Slot F)
found [] name = None
found (s ∷ slots) name = if same_name s.name name then Some s else found slots name

abbrev pub out_in : {F : Type 0} → Option (Slot F) → Bool
out_in None = false
out_in (Some s) = s.is_out

abbrev pub taken_in : {F : Type 0} → Option (Slot F) → ℕ
taken_in None = 0
taken_in (Some s) = s.count

-- a disk that is kept in a slot is of the slot's name
abbrev pub IsNamed : {F : Type 0} → Slot F → Type 0
IsNamed s = IfSome s.disk (λ d. d.name ≡ s.name)

abbrev pub AreNamed : {F : Type 0} → List (Slot F) → Type 0
AreNamed slots = All IsNamed slots

-- what contracts see of a bay over a folder
pub record FolderState (F : Type 0) : Type 0 where
  pub slots : List (Slot F)
  pub starved : Bool
  pub faults : ℕ

abbrev pub out_at : {F : Type 0} → FolderState F → List ℕ → Bool
out_at b name = out_in (found b.slots name)

abbrev pub taken_at : {F : Type 0} → FolderState F → List ℕ → ℕ
taken_at b name = taken_in (found b.slots name)

-- whether a name is out, and with what count it was taken, is as it was
abbrev pub Same : {F : Type 0} → List (Slot F) → List (Slot F) → List ℕ → Type 0
Same old new name = (out_in (found new name) ≡ out_in (found old name)) × (taken_in (found new name) ≡ taken_in (found old name))

-- the disk of a slot, where one is kept there, is taken from it
pub record Takes {F : Type 0} (old : List (Slot F)) (at : ℕ) (d : Slot F) (disk : Option FileState) (new : List (Slot F)) : Type 0 where
  pub is : disk ≡ (get_or old at d).disk
  pub left : new ≡ set old at (record (get_or old at d) { disk = None })

-- the disk of a slot is out, and was taken with this count
pub record Leaves {F : Type 0} (old : List (Slot F)) (at : ℕ) (d : Slot F) (count : ℕ) (new : List (Slot F)) : Type 0 where
  pub left : new ≡ set old at (record (get_or old at d) { is_out = true; count = count })

-- the disk of a slot isn't out any more; what is kept there, if anything, has the slot's name
pub record Returns {F : Type 0} (old : List (Slot F)) (at : ℕ) (d : Slot F) (new : List (Slot F)) : Type 0 where
  pub kept : Option FileState
  pub named : IfSome kept (λ disk. disk.name ≡ (get_or old at d).name)
  pub left : new ≡ set old at (record (get_or old at d) { is_out = false; disk = kept })
