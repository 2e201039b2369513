-- What is stored of share groups, as `dump-state` writes it (this project's own; docs/SCRIPT.md shows it).
-- For example where `g` released the one record of partition 0 of `orders` once, it writes
-- `table 67 orders/0 start 0 complete 0`, `run 0 0 available 1` and `end`.
use Rattle.std.specs.Prelude.{◌≡◌, ◌≢◌, ◌⊎◌, ℕ, List, [], ◌∷◌, ◌++◌, codes}
use Rattle.std.specs.List.{flat_map}
use Rattle.std.specs.Io.KnownBytes.{Appends}
use Rattle.edge_io.specs.Bays.{IsSound}
use Rattle.edge_io.specs.Causes.{Rose}
use Rattle.share_model.specs.ForeignRules.{ShareStates}
use Rattle.topic_conf.specs.Configs.{ConfigParts}
use Rattle.state_text.specs.Texts.{foreign_text, table_text}
use Rattle.broker_model.specs.Hosted.{IsTaken}
use Rattle.broker_model.specs.Shards.{HostedPart, Shards}
use Rattle.broker_model.specs.Machine.{Machine, Opening, StandsFor}
use Rattle.broker_model.specs.Disks.{Disks}
use Rattle.broker_hosts.specs.Openings.{IsOpenedDisk}
use Rattle.share_top.specs.declared.status.Status.{Status}
use Rattle.share_top.specs.declared.status.Status.TheVariants.{Done, WriteFault, Device, NoMemory}
use Rattle.share_top.specs.Apart.{LeavesOthers}
use Rattle.share_top.specs.Changes.{BayChange, OutputChange}
use Rattle.share_top.specs.Sessions.{CountRose, HoldsStates, OfBay, OverBay, WritesFrontOf}
use Rattle.share_top.specs.Statuses.{DisksStay, IsNotOpened}

-- ---- the text

-- the tables of a partition, by the byte order of their groups
abbrev pub tables_text : List ℕ → ℕ → ShareStates → List ℕ
tables_text topic part states = flat_map (λ e. table_text e.0.group topic part e.1) states

abbrev pub part_text : HostedPart → List ℕ
part_text p = tables_text p.hosted.topic p.hosted.conf.part p.shard.states

-- the states of partitions that aren't hosted, by the order of their keys
abbrev pub foreign_texts : ShareStates → List ℕ
foreign_texts states = flat_map (λ e. foreign_text e.0 e.1) states

-- those of each hosted partition in the order of the configuration, then foreign state, and the last line; 10 is a line
-- feed
abbrev pub dump_text : Shards → List ℕ
dump_text shards = flat_map part_text shards.parts ++ (foreign_texts shards.foreign.states ++ (codes "end" ++ 10 ∷ []))

-- ---- the disks

-- The disks stand for a broker at entry, and behind the call for the same, with nothing pending; no power of theirs was
-- lost, and no fault was armed. This is said of its text.
pub record IsDumped (conf : ConfigParts) (Says : List ℕ → Type 0) (contents : List ℕ → List ℕ) (was : Disks)
    (left : List ℕ → List ℕ) (now : Disks)
    : Type 0 where
  pub machine : Machine
  pub opens : Opening conf contents machine
  pub says : Says (dump_text machine.shards)
  pub stands : StandsFor left machine.shards
  pub disks : (name : List ℕ) → IsTaken conf name → IsOpenedDisk (was name) (now name)

-- ---- what each status says

-- The broker was opened. `Dumped` says that the disks stood for one and do so still, and this of its text.
abbrev pub IsWritten : OutputChange → ((List ℕ → Type 0) → Type 0) → Status → Type 0
-- the text was written, or a front of it
IsWritten output Dumped Done = Dumped (Appends output.held output.held_after)
IsWritten output Dumped WriteFault = Rose output.faults output.faults_after × Dumped (λ text. WritesFrontOf text output)
IsWritten output Dumped NoMemory = Dumped (λ text. WritesFrontOf text output)
IsWritten output Dumped _ = ⊥

-- The broker was opened over the disks of the bay, or was not.
abbrev pub IsDump : {B D : Type 0} → BayChange B D → ConfigParts → OutputChange → Status → Type 0
IsDump bay conf output status =
    IsWritten output (λ Says. OverBay bay conf (IsDumped conf Says)) status
    ⊎ (DisksStay bay (status ≡ Device) × IsNotOpened bay conf output status)

-- What a dump does.
pub record DumpsState {B D : Type 0} (bay : BayChange B D) (output : OutputChange)
    (conf : ConfigParts) (status : Status) : Type 0 where
  -- what the status says of what was written, and of the disks
  pub ends : IsDump bay conf output status
  -- over a sound bay no disk fails it
  pub sound : IsSound bay.seen bay.disk_seen bay.old → status ≢ Device
  -- where the disks stand for logs and states, the bay is sound or no count of it and its disks
  -- rose, and the output's didn't, the text is written whole, or no memory was found
  pub complete : HoldsStates bay conf
      → IsSound bay.seen bay.disk_seen bay.old ⊎ (CountRose bay conf → ⊥)
      → (Rose output.faults output.faults_after → ⊥) → (status ≡ Done) ⊎ (status ≡ NoMemory)
  -- a disk that isn't the broker's is as it was
  pub others : LeavesOthers bay (IsTaken conf)
