-- The pieces of a fetch. Of these public clauses cite `MakesTableOnce`, by `Writes`, and the private ones the others.
-- For example a group without a table gets one with start 2 where new groups begin at the log's start, 2, and its walk is that of such a table.
use Rattle.std.specs.Prelude.{◌≡◌, ◌++◌, ℕ, zero, suc, List, [], ◌∷◌, None, Result, Ok, Err, IsErr, IsSome, pos, unwrap_or}
use Rattle.flex_fields.specs.declared.fault.NoMemory.{NoMemory as want}
use Rattle.share_model.specs.ForeignRules.{share_state_at}
use Rattle.share_model.specs.Logs.{Batch}
use Rattle.part_log.specs.Starts.{Log}
use Rattle.share_model.specs.Keys.{KeyParts}
use Rattle.share_model.specs.ShareStates.{ShareState}
use Rattle.share_model.specs.declared.visit.ThenOutcome.{ThenOutcome}
use Rattle.share_model.specs.declared.visit.ThenOutcome.TheVariants.{Done, Store as store_outcome}
use Rattle.share_coord.specs.Calls.{IsInitialised}
use Rattle.share_coord.specs.Holding.{WritesOnce}
use Rattle.share_coord.specs.Parts.{StoreParts}
use Rattle.share_coord.specs.Recorded.{IsInitRecord, StoresOne}
use Rattle.share_coord.specs.Stored.{Entries, kept_at, snapshot_frames}
use Rattle.share_coord.specs.declared.fault.CoordFault.{CoordFault}
use Rattle.share_coord.specs.declared.fault.CoordFault.TheVariants.{Invalid, Unknown, FencedLeader, FencedState, TooMany, Store, NoMemory}
use Rattle.share_part.specs.Hosting.{PartConfParts, key_of}
use Rattle.share_coord.specs.States.{states_of}
use Rattle.share_part.specs.Shards.{new_state, first_start}
use Rattle.edge_io.specs.Views.{DiskView}
use Rattle.state_records.specs.declared.record.StateRecord.{StateRecord}

-- the state of a group's table, or of the one that it would get
abbrev pub state_for : PartConfParts → Log → Entries → List ℕ → ShareState
state_for conf log entries group = unwrap_or (share_state_at (states_of entries) (key_of conf group)) (new_state conf log)

-- what became of a new table, by what the store has answered
abbrev pub Tells : {T : Type 0} → Result T CoordFault → Result ThenOutcome want → Type 0
Tells (Ok done) result = result ≡ Ok Done
Tells (Err Invalid) result = ⊥
Tells (Err Unknown) result = ⊥
Tells (Err (FencedLeader known)) result = ⊥
Tells (Err (FencedState known)) result = ⊥
Tells (Err (TooMany runs)) result = ⊥
Tells (Err (Store fault)) result = result ≡ Ok (store_outcome fault)
Tells (Err NoMemory) result = IsErr result

-- a new table is stored as a snapshot with its start and no rows
abbrev pub IsTableRecord : Entries → KeyParts → (start : ℕ) → StateRecord → Type 0
IsTableRecord old key start one = IsInitRecord old key (pos 0) (pos start) one

-- A table that is stored by one record, or isn't.
pub record MakesOnce {D : Type 0} (seen : D → DiskView) (Failed : D → D → Type 0)
    (Written : Entries → Type 0) (Is : StateRecord → Type 0) (old new : StoreParts D)
    (result : Result ThenOutcome want) : Type 0 where
  pub done : Result (Unit {0}) CoordFault
  pub tells : Tells done result
  pub once : WritesOnce seen Failed Written old new done
  pub one : StoresOne seen (snapshot_frames old.entries) Is old.journal new.journal done

-- The table of a group is there, or is made.
pub record MakesTableOnce {D : Type 0} (seen : D → DiskView) (Failed : D → D → Type 0)
    (conf : PartConfParts) (group : List ℕ) (log : Log) (old new : StoreParts D) (result : Result ThenOutcome want)
    : Type 0 where
  pub there : IsSome (kept_at old.entries (key_of conf group)) → (new ≡ old) × (result ≡ Ok Done)
  pub absent : kept_at old.entries (key_of conf group) ≡ None →
      MakesOnce seen Failed (IsInitialised old.entries (key_of conf group) (pos 0) (pos (first_start conf.reset log)))
      (IsTableRecord old.entries (key_of conf group) (first_start conf.reset log)) old new result

-- the bytes of the batch with this number
abbrev pub bytes_at : List Batch → ℕ → List ℕ
bytes_at [] n = []
bytes_at (b ∷ log) zero = b.bytes
bytes_at (b ∷ log) (suc n) = bytes_at log n

-- the bytes of the batches with these numbers
abbrev pub numbered_bytes : List Batch → List ℕ → List ℕ
numbered_bytes log [] = []
numbered_bytes log (n ∷ numbers) = bytes_at log n ++ numbered_bytes log numbers
