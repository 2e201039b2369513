-- A replay, and what its status says (this project's own).
-- For example the script of `end` alone, over empty disks, has status 0; nothing is written, and each
-- disk stands for the same as before.
use Rattle.std.specs.Prelude.{◌⊎◌, ◌≡◌, ◌≢◌, List, Bool, IfSome}
use Rattle.edge_io.specs.Bays.{IsSound}
use Rattle.edge_io.specs.Causes.{Rose}
use Rattle.session_script.specs.declared.event.Event.{Event}
use Rattle.session_script.specs.Script.{IsScript}
use Rattle.topic_conf.specs.Configs.{ConfigParts}
use Rattle.broker_model.specs.Hosted.{IsTaken}
use Rattle.share_top.specs.declared.status.Status.{Status}
use Rattle.share_top.specs.declared.status.Status.TheVariants.{Done, Device, NoMemory}
use Rattle.share_top.specs.Apart.{LeavesOthers}
use Rattle.share_top.specs.Changes.{BayChange, InputChange, OutputChange}
use Rattle.share_top.specs.Sessions.{IsSession, OfBay, OverBay, HoldsStates, CountRose}
use Rattle.share_top.specs.Statuses.{DisksStay, IsNotOpened, IsPlayed}

-- a session was begun on the disks of the bay, or the broker was not opened and nothing was read
abbrev pub IsReplay : {B D : Type 0} → BayChange B D → ConfigParts → (summary : Bool) → InputChange
    → OutputChange → Status → Type 0
IsReplay bay conf summary input output status =
    IsPlayed conf summary input output
    (λ events Tells Ends. OverBay bay conf (IsSession conf events Tells Ends))
    (OfBay bay conf (λ contents was. ⊥)) (CountRose bay conf) status
    ⊎ (input.Same × DisksStay bay (status ≡ Device) × IsNotOpened bay conf output status)

-- a script is done, where no count of the streams rose and memory is found
abbrev pub IsComplete : InputChange → OutputChange → Status → Type 0
IsComplete input output status = (Rose input.faults input.faults_after → ⊥)
    → (Rose output.faults output.faults_after → ⊥)
    → IfSome input.left (λ text. (events : List Event) → IsScript text events
    → (status ≡ Done) ⊎ (status ≡ NoMemory))

-- What a replay does.
pub record ReplaysScript {B D : Type 0} (bay : BayChange B D) (input : InputChange)
    (output : OutputChange) (conf : ConfigParts) (summary : Bool) (status : Status) : Type 0 where
  -- what the status says of what was read, of what was told, and of the disks
  pub ends : IsReplay bay conf summary input output status
  -- over a sound bay no disk fails it
  pub sound : IsSound bay.seen bay.disk_seen bay.old → status ≢ Device
  -- where the disks stand for logs and states, and the bay is sound or no count of it and its disks
  -- rose, a script is done
  pub complete : HoldsStates bay conf
      → IsSound bay.seen bay.disk_seen bay.old ⊎ (CountRose bay conf → ⊥)
      → IsComplete input output status
  -- a disk that isn't the broker's is as it was
  pub others : LeavesOthers bay (IsTaken conf)
