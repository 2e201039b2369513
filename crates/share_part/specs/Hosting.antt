-- Which share-partition states a hosted partition may have on its disks, and what its three disks stand for. This project's own.
-- Worked example: with an empty log, a state of `g` on this partition with start 0 and no rows may be there, and one
-- with start 1 may not. With a log of one batch from 0 to 2 that starts at 2, one with start 2 may, and one with start 1
-- may not; where the state disks give it start 1, it is raised to 2.
use Rattle.std.specs.Prelude.{◌≡◌, ◌≤◌, ◌^◌, ℕ, pos, List, [], Option, Some, None}
use Rattle.std.specs.List.{Contains}
use Rattle.share_model.specs.ForeignRules.{ShareStates, share_state_at, size_of}
use Rattle.share_model.specs.Held.{Held, hold_at}
use Rattle.share_model.specs.Keys.{KeyParts}
use Rattle.share_model.specs.Logs.{Batch, end_of}
use Rattle.share_model.specs.Runs.{IsCanonical, row_at}
use Rattle.share_model.specs.ShareStates.{ShareState}
use Rattle.share_model.specs.declared.hold.Hold.{Hold}
use Rattle.share_model.specs.declared.reset.Reset.{Reset}
use Rattle.share_model.specs.declared.row.Row.{Row}
use Rattle.share_model.specs.declared.row.RowState.TheVariants.{Available}
use Rattle.part_log.specs.Logs.{IsLogText, IsStoredLog}
use Rattle.part_log.specs.Starts.{Log}
use Rattle.share_coord.specs.Raising.{raised_states}
use Rattle.share_coord.specs.States.{AreStates, states_of}
use Rattle.share_coord.specs.Stored.{Entries}
use Rattle.share_part.specs.Slots.{slots_from}

-- what the shard of a partition is configured with
pub record PartConfParts : Type 0 where
  pub topic : List ℕ
  pub part : ℕ
  pub reset : Reset
  pub lock_ms : ℕ
  pub limit : ℕ

-- the key of a group on the partition
abbrev pub key_of : PartConfParts → List ℕ → KeyParts
key_of conf group = record { group = group; topic = conf.topic; part = conf.part }

-- A stored row: its offset is one of the first 2000 slots from the start; it was delivered 1 to 10 times, and may be so once more where
-- it is available.
pub record IsHostedRow (log : List Batch) (start offset : ℕ) (row : Row) : Type 0 where
  pub slot : Contains (slots_from 2000 log start) offset
  pub delivered : (1 ≤ row.count) × (row.count ≤ 10)
  pub again : row.state ≡ Available → row.count ≤ 9

-- a state of the partition: it starts where the log does or behind, and at the log's end at most
pub record IsHosted (conf : PartConfParts) (log : Log) (key : KeyParts) (state : ShareState) : Type 0 where
  pub key_is : key ≡ key_of conf key.group
  pub epochs : (state.state_epoch ≡ pos 0) × (state.leader_epoch ≡ pos 0)
  pub start : (start : ℕ) × (state.start ≡ pos start) × (log.start ≤ start) × (start ≤ end_of log.batches)
  pub canonical : IsCanonical state.runs
  pub rows : (offset : ℕ) (row : Row) → row_at state.runs offset ≡ Some row →
      IsHostedRow log.batches (size_of state.start) offset row

abbrev pub AreHosted : PartConfParts → Log → ShareStates → Type 0
AreHosted conf log states = (key : KeyParts) (state : ShareState) → share_state_at states key ≡ Some state →
    IsHosted conf log key state

-- A record that is held: its offset is one of the first 2000 slots from the start, and this is its first to tenth delivery.
pub record IsHeldWell (log : List Batch) (start offset : ℕ) (hold : Hold) : Type 0 where
  pub slot : Contains (slots_from 2000 log start) offset
  pub delivered : (1 ≤ hold.count) × (hold.count ≤ 10)

abbrev pub AreHeldWell : List Batch → ℕ → Held → Type 0
AreHeldWell log start held = (offset : ℕ) (hold : Hold) → hold_at held offset ≡ Some hold → IsHeldWell log start offset hold

-- what a group holds that has this state, if it has one; a group without a table holds nothing
abbrev pub HoldsWell : List Batch → Option ShareState → Held → Type 0
HoldsWell log None held = held ≡ []
HoldsWell log (Some state) held = AreHeldWell log (size_of state.start) held

-- nothing is held that is stored as acknowledged or archived
abbrev pub AreFree : Option ShareState → Held → Type 0
AreFree None held = Unit {0}
AreFree (Some state) held = (offset : ℕ) (hold : Hold) (row : Row) → hold_at held offset ≡ Some hold → row_at state.runs offset ≡ Some row →
    row.state ≡ Available

abbrev pub KeepsHolds : List Batch → Option ShareState → Held → Type 0
KeepsHolds log state held = HoldsWell log state held × AreFree state held

-- The contents of the three disks stand for this log and these states: those of the two state disks, of which each that starts below the log's
-- start has that, and no row below it. The rules on a hosted partition are tried behind this.
pub record ArePartText (conf : PartConfParts) (log first second : List ℕ) (is : Log) (states : ShareStates) : Type 0 where
  pub log_is : IsLogText log is
  pub written : ShareStates
  pub states_are : AreStates first second written
  pub raised_is : states ≡ raised_states is.start written
  pub hosted : AreHosted conf is states

-- what the parts of a shard in memory keep: the log is sound, the states are ones that the partition may have, each
-- group holds what it may hold, there is memory for two runs for each of the 2000 records that a group may hold, and in the store for 6000 of each table:
-- its 2000 rows, and two for each of those
pub record IsKeptShard (conf : PartConfParts) (log : Log) (entries : Entries) (held : List ℕ → Held) (clock changed stored : ℕ)
    : Type 0 where
  pub log_is : IsStoredLog log.batches
  pub within : log.start ≤ end_of log.batches
  pub hosted : AreHosted conf log (states_of entries)
  pub holds : (group : List ℕ) →
      KeepsHolds log.batches (share_state_at (states_of entries) (key_of conf group)) (held group)
  pub moment : clock ≤ 2 ^ 62
  pub scratch : 4000 ≤ changed
  pub room : 6000 ≤ stored
