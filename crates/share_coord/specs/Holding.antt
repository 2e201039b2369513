-- What a store in memory and its two disks stand for together, and what a call that writes once leaves. This project's own.
-- For example a store whose write failed at its last device call holds what it held, with the write pending, and a restart after a
-- power loss finds it done or not.
use Rattle.std.specs.Prelude.{◌≡◌, ◌≢◌, ◌⊎◌, ◌<◌, ◌+◌, ◌^◌, ℕ, List, length, Some, None, Bool, true, false, Result, OnOk, OnErr, IfErr, Err, if◌then◌else◌}
use Rattle.std.specs.declared.option.Option.{Option}
use Rattle.edge_io.specs.Moments.{LeavesPairs}
use Rattle.share_model.specs.declared.fault.StoreFault.TheVariants.{Device, Full}
use Rattle.coord_checkpoint.specs.Stores.{Keeps}
use Rattle.gate_journal.specs.Frames.{IsFrame}
use Rattle.coord_checkpoint.specs.Writes.{IsQuietBut, MayCheckpoint, Tries}
use Rattle.share_model.specs.Pending.{WithPending}
use Rattle.share_coord.specs.Stored.{Entries, Accepts, AreTaken, based, snapshot_frames}
use Rattle.share_coord.specs.States.{states_of}
use Rattle.share_coord.specs.Unwritten.{AreAlike, AreKeptOf, AreStatesOf, IsViewOf}
use Rattle.share_coord.specs.declared.fault.CoordFault.{CoordFault}
use Rattle.share_coord.specs.declared.fault.CoordFault.TheVariants.{Store as store_fault}
use Rattle.share_coord.specs.Parts.{StoreParts}
use Rattle.share_coord.specs.declared.store.Store.{Store}
use Rattle.edge_io.specs.Views.{DiskView}

-- a store in memory, as it is seen
abbrev pub parts_of : {D : Type 0} → Store D → StoreParts D
parts_of store = record { journal = store.journal; entries = store.table.entries; room = store.room }

-- What the frame that is pending would leave of what is written, and of what is kept. Where none is, no write is.
abbrev pub Leaves : Entries → Option (List ℕ) → Option Entries → Type 0
Leaves written None pending = pending ≡ None
Leaves written (Some frame) pending = (new : Entries) × (lost : Entries) × (pending ≡ Some lost) × Accepts written frame new × AreKeptOf new lost

-- contents stand for states that are, once raised, these, or those of the pending write, if one is
abbrev pub StandWith : List ℕ → List ℕ → Entries → Option Entries → Type 0
StandWith a b entries pending = WithPending (AreStatesOf a b) entries pending

-- a frame goes on from what is written of these entries, and leaves that of which the others are kept
abbrev pub GoesTo : Entries → List ℕ → Entries → Type 0
GoesTo old frame lost = (written : Entries) × (new : Entries) × AreKeptOf written old × Accepts written frame new × AreKeptOf new lost

-- frames give states that are, once raised, those that are kept
abbrev pub StandsFor : List (List ℕ) → Entries → Type 0
StandsFor frames entries = (written : Entries) × AreTaken frames written × AreAlike IsViewOf written entries

-- The disks stand for what the store has in memory, once that is raised which was since, with or without the write that is pending, if one is.
pub record Holds {D : Type 0} (seen : D → DiskView) (store : StoreParts D) (pending : Option Entries) : Type 0 where
  pub frames : List (List ℕ)
  pub unwritten : Option (List ℕ)
  pub sealing : Option (List (List ℕ))
  pub keeps : Keeps seen store.journal frames sealing unwritten
  pub written : Entries
  pub taken : AreTaken frames written
  pub kept : AreKeptOf written store.entries
  pub few : length frames < 2 ^ 63
  pub leaves : Leaves written unwritten pending
  -- a checkpoint whose seal may still land stands for the same states
  pub sealed : (landed : List (List ℕ)) → sealing ≡ Some landed → StandsFor landed store.entries
  pub images : (a b : List ℕ) → (seen store.journal.first.disk).image a → (seen store.journal.second.disk).image b → StandWith a b store.entries pending

-- some write is pending, or none
abbrev pub IsHeld : {D : Type 0} → (D → DiskView) → StoreParts D → Type 0
IsHeld seen store = (pending : Option Entries) × Holds seen store pending

-- contents found at a moment of a call whose write would leave this: what stood at entry, or that
abbrev pub IsWithin : (Entries → Type 0) → Entries → Option Entries → List ℕ → List ℕ → Type 0
IsWithin Written old pending a b = StandWith a b old pending ⊎ ((new : Entries) × Written new × AreStatesOf a b new)

-- Behind a write that failed at the device: where no checkpoint was completed, what was pending may still be; or nothing is; or this write is.
abbrev pub LeavesPending : {D : Type 0} → (D → DiskView) → (Entries → Type 0) → (old new : StoreParts D) → Option Entries → Type 0
LeavesPending seen Written old new pending = ((new.journal.on_second ≡ old.journal.on_second) × Holds seen new pending)
    ⊎ (Holds seen new None ⊎ ((lost : Entries) × Written lost × Holds seen new (Some lost)))

-- A call that writes once, and what it leaves where it is granted. `Failed` says
-- that a device call failed.
pub record WritesOnce {D T : Type 0} (seen : D → DiskView) (Failed : D → D → Type 0)
    (Written : Entries → Type 0) (old new : StoreParts D) (result : Result T CoordFault) : Type 0 where
  -- where it answers Ok, no device call failed but in a checkpoint, it is written, and nothing is pending
  pub quiet : OnOk result (IsQuietBut seen (MayCheckpoint old.journal (snapshot_frames old.entries)) old.journal new.journal)
  pub written : OnOk result (Written new.entries)
  pub kept : OnOk result ((pending : Option Entries) → Holds seen old pending → Holds seen new None)
  -- Where it doesn't, the states are as before, and so is what is kept but for the numbers that a checkpoint renews. After a device fault the
  -- pending write is the one from before, which no completed checkpoint leaves, or this one, or none; another refusal changes nothing.
  pub same : OnErr result (states_of new.entries ≡ states_of old.entries)
  pub left : OnErr result ((checkpointed : Bool) × (new.entries ≡ based checkpointed old.entries))
  pub unchanged : IfErr result (λ e. e ≢ store_fault Device → new ≡ old)
  pub failed : OnErr result ((pending : Option Entries) → Holds seen old pending → LeavesPending seen Written old new pending)
  -- a device fault comes only to a call that is granted and where a device call failed, and Full where the frame would end past 2^62
  pub device : result ≡ Err (store_fault Device) →
      (Failed old.journal.first.disk new.journal.first.disk ⊎ Failed old.journal.second.disk new.journal.second.disk) × ((lost : Entries) × Written lost)
  pub full : (end : ℕ) → result ≡ Err (store_fault (Full end)) → (end ≡ old.journal.end)
      × ((frame : List ℕ) × (lost : Entries) × Written lost × GoesTo old.entries frame lost × IsFrame frame × (2 ^ 62 < end + (length frame + 5)))
  -- at each moment since it began, a crash leaves what stood at entry, or what it writes
  pub any_moment : (pending : Option Entries) → Holds seen old pending →
      LeavesPairs seen old.journal.first.disk new.journal.first.disk old.journal.second.disk new.journal.second.disk
      (IsWithin Written old.entries pending)

-- A checkpoint of all keys is tried with no write behind it, and refuses nothing: the states are those that there were. At each moment since it
-- began a crash leaves these, with or without the write that is pending. Behind a completed one nothing is pending, and each key's last
-- snapshot is its first.
pub record Tidies {D : Type 0} (seen : D → DiskView) (old new : StoreParts D) : Type 0 where
  pub checkpointed : Bool
  pub journal : Tries seen (snapshot_frames old.entries) old.journal new.journal checkpointed
  pub is : new.entries ≡ based checkpointed old.entries
  pub room : new.room ≡ old.room
  pub kept : (pending : Option Entries) → Holds seen old pending → Holds seen new (if checkpointed then None else pending)
  pub any_moment : (pending : Option Entries) → Holds seen old pending →
      LeavesPairs seen old.journal.first.disk new.journal.first.disk old.journal.second.disk new.journal.second.disk
      (λ a b. StandWith a b old.entries pending)

-- what is behind a call that tries a checkpoint, if it does
abbrev pub TidiesWhere : {D : Type 0} → (D → DiskView) → Bool → StoreParts D → StoreParts D → Type 0
TidiesWhere seen true old mid = Tidies seen old mid
TidiesWhere seen false old mid = mid ≡ old

-- A write, alone or behind a checkpoint that is tried by itself where one is due: what `WritesOnce` says of a write, by what stood before
-- both. Of the moments on the way each of the two calls says its own.
pub record WritesTidied {D T : Type 0} (seen : D → DiskView) (Failed : D → D → Type 0)
    (Written : Entries → Type 0) (tries : Bool) (old new : StoreParts D) (result : Result T CoordFault) : Type 0 where
  -- what stands between them
  pub mid : StoreParts D
  pub tidies : TidiesWhere seen tries old mid
  pub quiet : OnOk result (IsQuietBut seen (MayCheckpoint old.journal (snapshot_frames old.entries)) old.journal new.journal)
  pub written : OnOk result (Written new.entries)
  pub kept : OnOk result ((pending : Option Entries) → Holds seen old pending → Holds seen new None)
  pub same : OnErr result (states_of new.entries ≡ states_of old.entries)
  pub left : OnErr result ((checkpointed : Bool) × (new.entries ≡ based checkpointed old.entries))
  pub unchanged : IfErr result (λ e. e ≢ store_fault Device → new ≡ old)
  pub failed : OnErr result ((pending : Option Entries) → Holds seen old pending → LeavesPending seen Written old new pending)
  pub device : result ≡ Err (store_fault Device) →
      (Failed old.journal.first.disk new.journal.first.disk ⊎ Failed old.journal.second.disk new.journal.second.disk) × ((lost : Entries) × Written lost)
  pub full : (end : ℕ) → result ≡ Err (store_fault (Full end)) → (end ≡ old.journal.end)
      × ((frame : List ℕ) × (lost : Entries) × Written lost × GoesTo old.entries frame lost × IsFrame frame × (2 ^ 62 < end + (length frame + 5)))
  pub any_moment : (pending : Option Entries) → Holds seen mid pending →
      LeavesPairs seen mid.journal.first.disk new.journal.first.disk mid.journal.second.disk new.journal.second.disk
      (IsWithin Written mid.entries pending)
