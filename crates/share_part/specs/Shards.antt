-- The shard of a hosted partition as a machine: its log, the tables of its groups, the writes that are pending, and its clock; and what a
-- produced batch is answered and leaves of it (KIP-932; the pending writes are this project's own). The clock is the greatest moment that
-- the shard was handed.
-- Worked example: a log has one batch from 0 to 2, `g` has no table, and a new group begins at the log's start. Then the new table of `g` has
-- start 0 and no rows; it would have start 2 if the log started there. A batch that is produced at 5000 raises the clock from 0 to 5000, and
-- one at 1000 leaves it there.
use Rattle.std.specs.Prelude.{◌≡◌, ◌-◌, ◌^◌, max, ℕ, pos, List, [], Option, Some, None, Result, Ok, Err, IfOk, nat_le, if◌then◌else◌}
use Rattle.std.specs.Option.{IfSome, option_map}
use Rattle.std.specs.BTreeMap.{insert_entry, is_at}
use Rattle.std.specs.Cmp.Lexicographic.{slice_cmp}
use Rattle.std.specs.Map.{lookup}
use Rattle.std.specs.Ordering.{nat_cmp}
use Rattle.share_model.specs.ForeignRules.{ShareStates}
use Rattle.share_model.specs.Held.{Held}
use Rattle.share_model.specs.Keys.{key_cmp}
use Rattle.share_model.specs.Logs.{end_of}
use Rattle.share_model.specs.ShareStates.{ShareState}
use Rattle.share_model.specs.declared.delete.Placed.{Placed}
use Rattle.share_model.specs.declared.fault.LogFault.{LogFault}
use Rattle.share_model.specs.declared.reset.Reset.{Reset}
use Rattle.share_model.specs.declared.reset.Reset.TheVariants.{Latest, Earliest}
use Rattle.part_log.specs.Logs.{LogParts}
use Rattle.part_log.specs.Shards.{LogShardState, CarriesLog, StepsLog, log_at}
use Rattle.part_log.specs.Starts.{Log}
use Rattle.share_coord.specs.Holding.{Holds}
use Rattle.share_coord.specs.Parts.{StoreParts}
use Rattle.share_coord.specs.Stored.{Entries}
use Rattle.share_coord.specs.Unwritten.{AreLevel}
use Rattle.share_part.specs.Hosting.{PartConfParts, AreHosted, key_of}
use Rattle.share_coord.specs.States.{states_of}
use Rattle.edge_io.specs.Views.{DiskView}

-- ---- the machine

-- the log; the states of the groups that have a table, and what the pending write on them would leave; what each group holds; the clock
pub record PartShardState : Type 0 where
  pub log : LogShardState
  pub states : ShareStates
  pub pending : Option ShareStates
  pub held : List ℕ → Held
  pub clock : ℕ

-- what a shard is that was opened or has lost power: nothing is pending, nothing is held, and the clock is 0
abbrev pub shard_with : Log → ShareStates → PartShardState
shard_with log states = record {
  log = record { batches = log.batches; start = log.start; pending = None };
  states = states;
  pending = None;
  held = λ group. [];
  clock = 0;
}

-- one group's holds in place of those it had
abbrev pub with_held : (List ℕ → Held) → List ℕ → Held → List ℕ → Held
with_held held group its other = if is_at (slice_cmp nat_cmp group) other then its else held other

-- the start of a new table
abbrev pub first_start : Reset → Log → ℕ
first_start Latest log = end_of log.batches
first_start Earliest log = log.start

-- the state of a new table
abbrev pub new_state : PartConfParts → Log → ShareState
new_state conf log = record {
  state_epoch = pos 0;
  leader_epoch = pos 0;
  start = pos (first_start conf.reset log);
  runs = [];
}

-- the states once a group's new table is stored
abbrev pub with_new : PartConfParts → PartShardState → List ℕ → ShareStates
with_new conf shard group = insert_entry key_cmp shard.states (key_of conf group) (new_state conf (log_at shard.log))

-- the states, the pending write and the holds are as they were
pub record IsStill (old new : PartShardState) : Type 0 where
  pub states : new.states ≡ old.states
  pub pending : new.pending ≡ old.pending
  pub held : new.held ≡ old.held

-- the clock is raised to a moment, and nothing else changes
abbrev pub with_clock_raised : ℕ → PartShardState → PartShardState
with_clock_raised now old = record { log = old.log; states = old.states; pending = old.pending; held = old.held; clock = max old.clock now }

-- ---- a produced batch

-- what is told of a batch that was added to a log which starts there, or wasn't
abbrev pub placed_at : (start : ℕ) → Result ℕ LogFault → Result Placed LogFault
placed_at start (Ok base) = Ok (record { base = base; start = start })
placed_at start (Err fault) = Err fault

-- the base that is told, or the fault
abbrev pub base_in : Result Placed LogFault → Result ℕ LogFault
base_in (Ok placed) = Ok placed.base
base_in (Err fault) = Err fault

-- A batch that is produced at the moment `now`: a step of the log, which is told with its base and the log's start. `rose` says that the count
-- of faults of the log's disk rose, `end` is where its journal ends.
pub record StepsProduce (rose : Type 0) (end : ℕ) (old : PartShardState) (now : ℕ) (bytes : List ℕ) (result : Result Placed LogFault)
    (new : PartShardState) : Type 0 where
  pub clock : new.clock ≡ max old.clock now
  pub log : StepsLog rose end old.log bytes (base_in result) new.log
  pub start : IfOk result (λ placed. placed.start ≡ old.log.start)
  pub still : IsStill old new

-- ---- the shard in memory

-- What contracts see of a shard: its configuration, the log, the store of the states, the windows of the groups that have one, in the
-- order of the groups, and the clock.
pub record PartParts (D W : Type 0) : Type 0 where
  pub conf : PartConfParts
  pub log : LogParts D
  pub states : StoreParts D
  pub windows : List (List ℕ × W)
  pub clock : ℕ

-- The spare number of a store with room for so many runs of each table: how many pieces acknowledgements may have that take no memory. A table
-- has at most 2000 rows, and a group holds at most 2000 records, of which each that is acknowledged puts two runs at most. So with room for
-- 6000 runs it is the greatest number that can be asked for; else it is 0.
abbrev pub spare_in : (room : ℕ) → ℕ
spare_in room = if nat_le 6000 room then 2 ^ 32 - 1 else 0

abbrev pub spare_of : {D W : Type 0} → PartParts D W → ℕ
spare_of parts = spare_in parts.states.room

abbrev pub held_of : {W : Type 0} → (W → Held) → Option W → Held
held_of held None = []
held_of held (Some window) = held window

-- what a group holds: what its window does, and nothing where it has none
abbrev pub held_in : {W : Type 0} → (W → Held) → List (List ℕ × W) → List ℕ → Held
held_in held windows group = held_of held (lookup (is_at (slice_cmp nat_cmp group)) windows)

abbrev pub IsPendingHosted : PartConfParts → Log → Option ShareStates → Type 0
IsPendingHosted conf log None = Unit {0}
IsPendingHosted conf log (Some states) = AreHosted conf log states

-- Nothing of a shard has changed: its log, its states, the disks of both, its clock and what each group holds are as they
-- were. A window may have been made, which holds nothing, or memory set aside in one.
pub record IsUntouched {D W : Type 0} (holding : W → Held) (before after : PartParts D W) : Type 0 where
  pub conf : after.conf ≡ before.conf
  pub log : after.log ≡ before.log
  pub states : after.states ≡ before.states
  pub clock : after.clock ≡ before.clock
  pub held : (group : List ℕ) → held_in holding after.windows group ≡ held_in holding before.windows group

-- A shard in memory and its disks stand for the shard's state.
pub record Carries {D W : Type 0} (seen : D → DiskView) (holding : W → Held) (parts : PartParts D W) (shard : PartShardState) : Type 0 where
  pub log : CarriesLog seen parts.log shard.log
  pub pending : Option Entries
  pub holds : Holds seen parts.states pending
  pub states : shard.states ≡ states_of parts.states.entries
  pub pending_is : shard.pending ≡ option_map states_of pending
  pub held : (group : List ℕ) → shard.held group ≡ held_in holding parts.windows group
  pub clock : shard.clock ≡ parts.clock
  pub hosted : AreHosted parts.conf (log_at shard.log) shard.states
  pub pending_hosted : IsPendingHosted parts.conf (log_at shard.log) shard.pending
  -- where a table's start was raised since it was written, it is the log's
  pub level : AreLevel shard.log.start parts.states.entries
  pub pending_level : IfSome pending (AreLevel shard.log.start)
