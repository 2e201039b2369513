-- What is promised of a replay: it holds of each run of the broker that begins as the disks were (this
-- project's own).
-- For example where two members of a group fetch one after the other, and the first one's lock stands, the
-- reply to the second has none of the records that the first one holds.
use Rattle.std.specs.Prelude.{◌≡◌, ℕ, List}
use Rattle.std.specs.List.{AllByRecursion}
use Rattle.edge_io.specs.declared.fault.Armed.TheVariants.{Nothing}
use Rattle.topic_conf.specs.Configs.{ConfigParts}
use Rattle.broker_model.specs.Disks.{Disks}
use Rattle.broker_model.specs.Hosted.{IsTaken}
use Rattle.broker_model.specs.Laws.{HoldsOfRun}
use Rattle.broker_model.specs.Runs.{IsRun, Step}
use Rattle.broker_model.specs.Starts.{BeginsWell}
use Rattle.broker_model.specs.States.{State}
use Rattle.broker_hosts.specs.Bays.{IsFirst, TellsDisks}
use Rattle.share_top.specs.Changes.{BayChange}

-- a run of a broker from its disks as they were at entry, where the bay tells them
pub record IsRunFrom {B D : Type 0} (bay : BayChange B D) (conf : ConfigParts) (was : Disks)
    (first : State) (steps : List Step) (last : State) : Type 0 where
  pub contents : List ℕ → List ℕ
  pub told : TellsDisks bay.seen bay.disk_seen conf bay.old contents was
  pub begins : IsFirst conf contents was first
  pub goes : IsRun conf first steps last

-- What holds of a run on disks of which this was known.
pub record KeepsPromises (conf : ConfigParts) (was : Disks) (first : State) (steps : List Step)
    (last : State) : Type 0 where
  -- Locks are exclusive; nothing deleted is granted; starts pass what was acknowledged or archived
  -- alone; an acknowledgement of what its member holds is refused by the store alone; and its
  -- losses, arms and counts.
  pub holds : HoldsOfRun conf first steps last
  -- its partitions begin well, which is the premise of what `holds` says of starts, and of what is
  -- deleted
  pub well : AllByRecursion BeginsWell first.machine.shards.parts
  -- a disk with nothing armed begins so: its count rises only behind an arm, as `holds` says
  pub unarmed : (name : List ℕ) → IsTaken conf name → (was name).armed ≡ Nothing
      → (first.disks name).armed ≡ Nothing

-- Each run from the disks as they were keeps these promises; that of a replay is one (`IsSession`).
abbrev pub PromisesOfReplay : {B D : Type 0} → BayChange B D → Type 0
PromisesOfReplay bay = (conf : ConfigParts) (was : Disks) (first last : State) (steps : List Step)
    → IsRunFrom bay conf was first steps last → KeepsPromises conf was first steps last
