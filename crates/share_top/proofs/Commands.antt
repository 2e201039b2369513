-- What each command does, as one record.
use Rattle.std.proofs.Common.{◌≡◌, ◌≢◌, ◌⊎◌, inl, inr, ⊎_elim, refl, ap, subst, ◌∙◌, Bool, ℕ, List}
use Rattle.std.specs.Prelude.{String}
use Rattle.std.specs.declared.alloc.Global.{Global}
use Rattle.edge_io.specs.Bays.{IsSound}
use Rattle.edge_io.specs.Causes.{Rose}
use Rattle.topic_conf.specs.Configs.{ConfigParts}
use Rattle.broker_model.specs.Hosted.{IsTaken}
use Rattle.broker_model.proofs.Holds.{holds}
use Rattle.broker_model.proofs.Passing.{openings_well}
use Rattle.share_top.specs.declared.status.Status.{Status}
use Rattle.share_top.specs.declared.status.Status.TheVariants.{Done, Usage, Malformed, ReadFault, WriteFault, Damaged, Device, NoMemory, Listener, Spawner, Lost, Refused, Strange}
use Rattle.share_top.specs.declared.words.Words.{Words}
use Rattle.share_top.specs.declared.words.Words.TheVariants.{Replay, Load, DumpState, Gen, Serve, Consume}
use Rattle.share_top.specs.Apart.{LeavesOthers}
use Rattle.share_top.specs.Changes.{BayChange, Call, InputChange, OutputChange, ServerChange}
use Rattle.share_top.specs.Commands.{Does, DoesNothing, DoesWords}
use Rattle.share_top.specs.Dumping.{DumpsState, IsDump}
use Rattle.share_top.specs.Promises.{PromisesOfReplay}
use Rattle.share_top.specs.Replaying.{IsReplay, ReplaysScript}
use Rattle.share_top.specs.Sessions.{CountRose, HoldsStates}
use Rattle.share_top.specs.Statuses.{status_number}
use Rattle.share_top.specs.Words.{AreOfCommand, AreOfConsume, AreOfServe}
use Rattle.share_top.proofs.Completes.{completes_on, not_device_on}

-- where a status isn't that of an output's fault, the count of those is as before
pub counted_by : (number before after : ℕ) (status : Status) → number ≡ status_number status → (status ≢ WriteFault → after ≡ before) → number ≢ 5
    → after ≡ before
counted_by number before after status is counted five = counted (λ e. five (is ∙ ap status_number e))

-- ---- what is promised

pub promises : {B D : Type 0} (bay : BayChange B D) → PromisesOfReplay bay
promises bay conf was first last steps run = record {
  holds = holds conf first last steps run.goes;
  well = openings_well conf run.contents first.machine run.begins.opens;
  unarmed = λ name taken none. ((run.begins.disks name taken).spends.disarmed none).0;
}

-- ---- replay and dump

module _ {B D : Type 0} (bay : BayChange B D) (conf : ConfigParts) (status : Status)
    (recovers : HoldsStates bay conf → status ≢ Damaged) (sound : IsSound bay.seen bay.disk_seen bay.old → status ≢ Device)
    (others : LeavesOthers bay (IsTaken conf)) (output : OutputChange) where
  pub replays_script : (input : InputChange) (summary : Bool) → IsReplay bay conf summary input output status → ReplaysScript bay input output conf summary status
  replays_script input summary replay = record {
    ends = replay;
    sound = sound;
    complete = λ told still. completes_on bay conf summary input output status replay (recovers told)
        (⊎_elim sound (not_device_on bay conf summary input output status replay told) still);
    others = others;
  }

  -- no fault of a disk or the bay where no count rose
  fed : IsDump bay conf output status → (CountRose bay conf → ⊥) → status ≢ Device
  fed d still is = go (subst (λ (s : Status). IsDump bay conf output s) is d) where
    go : IsDump bay conf output Device → ⊥
    go (inl d) = d
    go (inr d) = still d.1.0

  -- with no fault of the output, of a disk or of the bay
  done : (s : Status) → IsDump bay conf output s → s ≢ Damaged → s ≢ Device → (Rose output.faults output.faults_after → ⊥)
      → (s ≡ Done) ⊎ (s ≡ NoMemory)
  done Done d whole fed quiet = inl refl
  done NoMemory d whole fed quiet = inr refl
  done Damaged d whole fed quiet = absurd (whole refl)
  done Device d whole fed quiet = absurd (fed refl)
  done WriteFault (inl d) whole fed quiet = absurd (quiet d.0)
  done WriteFault (inr d) whole fed quiet = absurd (quiet d.1.0)
  done Usage (inl d) whole fed quiet = absurd d
  done Usage (inr d) whole fed quiet = absurd d.1
  done Listener (inl d) whole fed quiet = absurd d
  done Listener (inr d) whole fed quiet = absurd d.1
  done Spawner (inl d) whole fed quiet = absurd d
  done Spawner (inr d) whole fed quiet = absurd d.1
  done Lost (inl d) whole fed quiet = absurd d
  done Lost (inr d) whole fed quiet = absurd d.1
  done Refused (inl d) whole fed quiet = absurd d
  done Refused (inr d) whole fed quiet = absurd d.1
  done Strange (inl d) whole fed quiet = absurd d
  done Strange (inr d) whole fed quiet = absurd d.1
  done Malformed (inl d) whole fed quiet = absurd d
  done Malformed (inr d) whole fed quiet = absurd d.1
  done ReadFault (inl d) whole fed quiet = absurd d
  done ReadFault (inr d) whole fed quiet = absurd d.1

  pub dumps_state : IsDump bay conf output status → DumpsState bay output conf status
  dumps_state dump = record {
    ends = dump;
    sound = sound;
    complete = λ told still quiet. done status dump (recovers told) (⊎_elim sound (fed dump) still) quiet;
    others = others;
  }

-- ---- beside a server

-- what a call did that was handed nothing for a server, whose words are those of none, and of no share consumer
module _ {B D : Type 0} (words : List (String Global)) (number : ℕ) (bay : BayChange B D) (input : InputChange) (output : OutputChange)
    (alone server : ServerChange D) (none : AreOfServe words → ⊥) (unlinked : AreOfConsume words → ⊥) (no_link : server.listener.Same) (no_job : server.spawner.Same) where
  abbrev Alone : Call B D
  Alone = record { words = words; number = number; bay = bay; input = input; output = output; server = alone }

  abbrev Beside : Call B D
  Beside = record { words = words; number = number; bay = bay; input = input; output = output; server = server }

  as_well : (command : Words) (status : Status) → AreOfCommand words command → DoesWords Alone command status → DoesWords Beside command status
  as_well (Replay conf summary) status are d = d
  as_well (Load conf shard) status are d = d
  as_well (DumpState conf) status are d = d
  as_well (Gen n) status are d = d
  as_well (Serve listen serve) status are d = absurd (none (listen, serve, are))
  as_well (Consume connect conf) status are d = absurd (unlinked (connect, conf, are))

  pub does_beside : Does Alone → Does Beside
  does_beside (inl d) = inl (record { why = d.why; untouched = d.untouched; unserved = (no_link, no_job) })
  does_beside (inr d) = inr (d.0, d.1, d.2, d.3, as_well d.0 d.1 d.2 d.4)
