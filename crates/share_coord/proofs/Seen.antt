-- A call on a store, as the callers of the whole see it.
use Rattle.std.proofs.Common.{◌≡◌, ◌⊎◌, inl, inr, refl, sym, subst, ℕ, ℤ, List, Option, Some, None, Result, to_z, of_z, w32, w64, FitsSigned}
use Rattle.std.specs.Option.{IsSome}
use Rattle.std.proofs.lemmas.Int.{to_z-of_z}
use Rattle.share_model.specs.Keys.{KeyParts}
use Rattle.share_model.specs.declared.run.Run.{Run}
use Rattle.coord_checkpoint.specs.Stores.{Keeps, StoreParts as JournalParts}
use Rattle.share_coord.specs.Parts.{StoreParts}
use Rattle.share_coord.specs.Stored.{Entries, kept_at, snapshot_frames}
use Rattle.share_coord.specs.Calls.{IsInitialised, IsWritten, IsForgotten}
use Rattle.share_coord.specs.Holding.{Holds, WritesOnce}
use Rattle.share_coord.specs.Recorded.{IsInitRecord, IsWriteRecord, StoresOne}
use Rattle.share_coord.specs.Rooms.{IsOwnRecord, IsOwnWritten}
use Rattle.state_records.specs.declared.record.StateRecord.TheVariants.{Removal}
use Rattle.share_coord.specs.declared.fault.CoordFault.{CoordFault}
use Rattle.share_coord.specs.Parts.{KeptState}
use Rattle.share_coord.proofs.Held.{holds_by}
use Rattle.share_coord.proofs.Once.{rewritten}
use Rattle.share_coord.proofs.Signed.{written_as}
use Rattle.share_coord.proofs.Storing.{as_this, write_stored}
use Rattle.edge_io.specs.Views.{DiskView}

module _ {D T : Type 0} (seen : D → DiskView) (Failed : D → D → Type 0)
    (shown now new : StoreParts D) (r : Result T CoordFault) (key : KeyParts) (same : shown ≡ now) where
  pub seen_init : (state start : ℤ) → FitsSigned w32 state → FitsSigned w64 start
      → WritesOnce seen Failed (IsInitialised shown.entries key (to_z w32 (of_z w32 state)) (to_z w64 (of_z w64 start))) shown new r
      → WritesOnce seen Failed (IsInitialised now.entries key state start) now new r
  seen_init state start f g once =
      subst (λ (p : StoreParts D). WritesOnce seen Failed (IsInitialised p.entries key state start) p new r) same
      (subst (λ (z : ℤ). WritesOnce seen Failed (IsInitialised shown.entries key state z) shown new r) (to_z-of_z w64 start g)
      (subst (λ (z : ℤ). WritesOnce seen Failed (IsInitialised shown.entries key z (to_z w64 (of_z w64 start))) shown new r) (to_z-of_z w32 state f) once))

  pub seen_write : (state leader start : ℤ) (runs : List Run) → FitsSigned w32 state → FitsSigned w32 leader → FitsSigned w64 start
      → WritesOnce seen Failed (IsWritten shown.entries key (to_z w32 (of_z w32 state)) (to_z w32 (of_z w32 leader)) (to_z w64 (of_z w64 start)) runs) shown new r
      → WritesOnce seen Failed (IsWritten now.entries key state leader start runs) now new r
  seen_write state leader start runs f g h once =
      subst (λ (p : StoreParts D). WritesOnce seen Failed (IsWritten p.entries key state leader start runs) p new r) same
      (rewritten seen Failed (IsWritten shown.entries key (to_z w32 (of_z w32 state)) (to_z w32 (of_z w32 leader)) (to_z w64 (of_z w64 start)) runs)
      (IsWritten shown.entries key state leader start runs) shown new r
      (λ es is. written_as shown.entries key state leader start runs es es f g h is refl) once)

  pub seen_own : (start : ℤ) (runs : List Run) → FitsSigned w64 start
      → WritesOnce seen Failed (IsOwnWritten shown.entries key (to_z w64 (of_z w64 start)) runs) shown new r
      → WritesOnce seen Failed (IsOwnWritten now.entries key start runs) now new r
  seen_own start runs h once =
      subst (λ (p : StoreParts D). WritesOnce seen Failed (IsOwnWritten p.entries key start runs) p new r) same
      (subst (λ (z : ℤ). WritesOnce seen Failed (IsOwnWritten shown.entries key z runs) shown new r) (to_z-of_z w64 start h) once)

  pub seen_remove : (IsSome (kept_at shown.entries key) → WritesOnce seen Failed (IsForgotten shown.entries key) shown new r)
      → IsSome (kept_at now.entries key) → WritesOnce seen Failed (IsForgotten now.entries key) now new r
  seen_remove once =
      subst (λ (p : StoreParts D). IsSome (kept_at p.entries key) → WritesOnce seen Failed (IsForgotten p.entries key) p new r) same once

-- and the record that it stores
module _ {D T : Type 0} (seen : D → DiskView) (shown now new : StoreParts D) (r : Result T CoordFault) (key : KeyParts) (same : shown ≡ now) where
  pub stored_init : (state start : ℤ) → FitsSigned w32 state → FitsSigned w64 start
      → StoresOne seen (snapshot_frames shown.entries) (IsInitRecord shown.entries key (to_z w32 (of_z w32 state)) (to_z w64 (of_z w64 start))) shown.journal new.journal r
      → StoresOne seen (snapshot_frames now.entries) (IsInitRecord now.entries key state start) now.journal new.journal r
  stored_init state start f g h =
      subst (λ (p : StoreParts D). StoresOne seen (snapshot_frames p.entries) (IsInitRecord p.entries key state start) p.journal new.journal r) same
      (subst (λ (z : ℤ). StoresOne seen (snapshot_frames shown.entries) (IsInitRecord shown.entries key state z) shown.journal new.journal r) (to_z-of_z w64 start g)
      (subst (λ (z : ℤ). StoresOne seen (snapshot_frames shown.entries) (IsInitRecord shown.entries key z (to_z w64 (of_z w64 start))) shown.journal new.journal r)
      (to_z-of_z w32 state f) h))

  pub stored_write : (state leader start : ℤ) (runs : List Run) → FitsSigned w32 state → FitsSigned w32 leader → FitsSigned w64 start
      → StoresOne seen (snapshot_frames shown.entries) (IsWriteRecord shown.entries key (to_z w32 (of_z w32 state)) (to_z w32 (of_z w32 leader)) (to_z w64 (of_z w64 start)) runs)
      shown.journal new.journal r
      → StoresOne seen (snapshot_frames now.entries) (IsWriteRecord now.entries key state leader start runs) now.journal new.journal r
  stored_write state leader start runs f g i h =
      subst (λ (p : StoreParts D). StoresOne seen (snapshot_frames p.entries) (IsWriteRecord p.entries key state leader start runs) p.journal new.journal r) same
      (as_this seen (snapshot_frames shown.entries) (IsWriteRecord shown.entries key (to_z w32 (of_z w32 state)) (to_z w32 (of_z w32 leader)) (to_z w64 (of_z w64 start)) runs)
      (IsWriteRecord shown.entries key state leader start runs) shown.journal new.journal
      (λ one is. write_stored shown.entries key state leader start runs one f g i is) r h)

  pub stored_own : (start : ℤ) (runs : List Run) → FitsSigned w64 start
      → StoresOne seen (snapshot_frames shown.entries) (IsOwnRecord shown.entries key (to_z w64 (of_z w64 start)) runs) shown.journal new.journal r
      → StoresOne seen (snapshot_frames now.entries) (IsOwnRecord now.entries key start runs) now.journal new.journal r
  stored_own start runs h stored =
      subst (λ (p : StoreParts D). StoresOne seen (snapshot_frames p.entries) (IsOwnRecord p.entries key start runs) p.journal new.journal r) same
      (subst (λ (z : ℤ). StoresOne seen (snapshot_frames shown.entries) (IsOwnRecord shown.entries key z runs) shown.journal new.journal r) (to_z-of_z w64 start h) stored)

  pub stored_remove : (IsSome (kept_at shown.entries key) → StoresOne seen (snapshot_frames shown.entries) (λ one. one ≡ Removal key) shown.journal new.journal r)
      → IsSome (kept_at now.entries key) → StoresOne seen (snapshot_frames now.entries) (λ one. one ≡ Removal key) now.journal new.journal r
  stored_remove h =
      subst (λ (p : StoreParts D). IsSome (kept_at p.entries key) → StoresOne seen (snapshot_frames p.entries) (λ one. one ≡ Removal key) p.journal new.journal r) same h

pub either_there : (o : Option KeptState) → (o ≡ None) ⊎ IsSome o
either_there None = inl refl
either_there (Some kept) = inr refl

-- a fault was armed
pub rearmed : {D : Type 0} (seen : D → DiskView) (old new : JournalParts D) (entries : Entries) (room : ℕ)
    → ((frames : List (List ℕ)) (sealing : Option (List (List ℕ))) (pending : Option (List ℕ)) → Keeps seen old frames sealing pending → Keeps seen new frames sealing pending)
    → (pending : Option Entries) → Holds seen (record { journal = old; entries = entries; room = room }) pending → Holds seen (record { journal = new; entries = entries; room = room }) pending
rearmed seen old new entries room stays pending held =
    holds_by seen new entries held.written room held.frames held.sealing held.unwritten pending (stays held.frames held.sealing held.unwritten held.keeps)
    held.taken held.kept held.few held.leaves held.sealed

-- memory was set aside
pub reroomed : {D : Type 0} (seen : D → DiskView) (old new : StoreParts D) → new.journal ≡ old.journal → new.entries ≡ old.entries → (pending : Option Entries)
    → Holds seen old pending → Holds seen new pending
reroomed {D} seen old new journal entries pending held =
    let at : Holds seen (record { journal = old.journal; entries = old.entries; room = new.room }) pending =
    holds_by seen old.journal old.entries held.written new.room held.frames held.sealing held.unwritten pending held.keeps held.taken held.kept held.few held.leaves held.sealed in
    let same : ◌≡◌ {A = StoreParts D} (record { journal = old.journal; entries = old.entries; room = new.room }) new =
    λ i. record { journal = sym journal i; entries = sym entries i; room = new.room } in
    subst (λ (s : StoreParts D). Holds seen s pending) same at
