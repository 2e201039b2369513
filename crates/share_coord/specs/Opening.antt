-- What a store is that was opened, and why none was. This project's own.
-- For example two empty disks are opened as a store of no keys; a first disk of `01 00000001 61 00` beside an empty second one, whose
-- frame is no record, is damaged at byte 0, and both disks come back.
use Rattle.std.specs.Prelude.{◌≡◌, ◌≢◌, ℕ, List, Some, None, Bool, true, false}
use Rattle.coord_checkpoint.specs.Disks.{HasFailed}
use Rattle.gate_journal.specs.Frames.{IsDamaged}
use Rattle.coord_checkpoint.specs.declared.fault.CoordOpen.{CoordOpen}
use Rattle.coord_checkpoint.specs.declared.fault.CoordOpen.TheVariants.{Damaged, Device}
use Rattle.share_coord.specs.Holding.{Holds}
use Rattle.share_coord.specs.Parts.{StoreParts}
use Rattle.share_coord.specs.Stored.{Entries, AreStored, AreDamaged}
use Rattle.share_coord.specs.Unwritten.{AreUnraised}
use Rattle.edge_io.specs.Views.{DiskView}

-- A store that was opened of two disks.
pub record IsOpened {D : Type 0} (seen : D → DiskView) (a b : D) (store : StoreParts D) : Type 0 where
  -- each image stands for its states from now on, and nothing is pending; no start was raised
  pub holds : Holds seen store None
  pub unraised : AreUnraised store.entries
  -- the contents stood for these states, and for no others
  pub opens : (x y : List ℕ) → (seen a).content ≡ Some x → (seen b).content ≡ Some y → AreStored x y store.entries
  pub only : (x y : List ℕ) (entries : Entries) → (seen a).content ≡ Some x → (seen b).content ≡ Some y → AreStored x y entries → store.entries ≡ entries

-- The disks that come back where none was opened, and why.
pub record IsNotOpened {D : Type 0} (seen : D → DiskView)
    (a b : D) (left : D × D × CoordOpen) : Type 0 where
  -- contents are damaged at that place, and stand for no states
  pub damaged : (second : Bool) (place : ℕ) → left.2 ≡ Damaged second place →
      (x y : List ℕ) → (seen a).content ≡ Some x → (seen b).content ≡ Some y → AreDamaged x y second place
  pub sound : (x y : List ℕ) (entries : Entries) → (seen a).content ≡ Some x → (seen b).content ≡ Some y → AreStored x y entries →
      (second : Bool) (place : ℕ) → left.2 ≢ Damaged second place
  -- a disk failed
  pub device : left.2 ≡ Device false → HasFailed seen a left.0
  pub second_device : left.2 ≡ Device true → HasFailed seen b left.1
  -- where the first one failed, or isn't journal text, no call was made on the second, which comes back as it was
  pub untouched : left.2 ≡ Device false → left.1 ≡ b
  pub unread : (x y : List ℕ) (place : ℕ) → (seen a).content ≡ Some x → (seen b).content ≡ Some y → IsDamaged x place →
      left.2 ≡ Damaged false place → left.1 ≡ b
