-- A server, and what its status says (this project's own).
-- For example `serve --accept 1` over a fresh folder, to which one client came, produced a batch and left, has status
-- 0: its listener gave one link, and the disks stand for what the history of each shard leaves, which has that produce
-- among its entries: it is what the worker that served a link did for it.
use Rattle.std.specs.Prelude.{◌≡◌, ◌≢◌, ◌⊎◌, ℕ, Bool, true, List, String}
use Rattle.std.specs.declared.alloc.Global.{Global}
use Rattle.edge_io.specs.Bays.{IsSound}
use Rattle.edge_io.specs.Causes.{Rose}
use Rattle.edge_io.specs.Serving.{Gave}
use Rattle.edge_io.specs.Views.{BayView}
use Rattle.broker_model.specs.Hosted.{IsTaken}
use Rattle.broker_run.specs.Server.{Serves}
use Rattle.broker_run.specs.declared.jobs.LinksEnd.{LinksEnd}
use Rattle.broker_run.specs.declared.jobs.LinksEnd.TheVariants as links
use Rattle.share_top.specs.declared.status.Status.{Status}
use Rattle.share_top.specs.declared.status.Status.TheVariants.{Done, Device, NoMemory, Listener, Spawner}
use Rattle.share_top.specs.declared.words.server.ServeWords.{ServeWords}
use Rattle.share_top.specs.Apart.{LeavesOthers}
use Rattle.share_top.specs.Changes.{BayChange, ListenerChange, OutputChange, ServerChange, SpawnerChange}
use Rattle.share_top.specs.Loading.{NoneIsOut}
use Rattle.share_top.specs.Sessions.{CountRose, HoldsStates}
use Rattle.share_top.specs.Statuses.{DisksStay, IsNotOpened}
use Rattle.share_top.specs.Words.{AreOfServe}

-- the status of a server whose links were served to this end
abbrev pub ServesTo : LinksEnd → Status → Type 0
ServesTo links.Served status = status ≡ Done
ServesTo links.Listener status = status ≡ Listener
ServesTo links.Refused status = status ≡ Spawner
ServesTo links.NoMemory status = status ≡ NoMemory

-- Why serving ended: the listener gave as many links as were asked for, or told that no more come; it failed; a job was
-- refused, and no link was given; or no memory was found for a job or a link.
abbrev pub HasServeCause : (accept : ℕ) → ListenerChange → SpawnerChange → Status → Type 0
HasServeCause accept listener spawner Done = Gave listener.given accept listener.given_after ⊎ (listener.done ≡ true)
HasServeCause accept listener spawner Listener = Rose listener.faults listener.faults_after
HasServeCause accept listener spawner Spawner = (listener.given_after ≡ listener.given)
    × Rose spawner.faults spawner.faults_after
HasServeCause accept listener spawner NoMemory = Unit {0}
HasServeCause accept listener spawner _ = ⊥

-- The disks stand for what legal histories leave of the opening, all of whose entries were so worked, and
-- nothing was written. Or the broker was not opened, no link was given and no job started; behind want of
-- memory nothing is said of its disks then.
abbrev pub IsServe : {B D : Type 0} → BayChange B D → OutputChange → ServerChange D → ServeWords → Status
    → Type 0
IsServe bay output server serve status =
    (output.Same × Serves bay.seen bay.disk_seen server.Worked serve.conf bay.old bay.new
    × HasServeCause serve.accept server.listener server.spawner status)
    ⊎ (server.listener.Same × server.spawner.Same × (status ≢ NoMemory → DisksStay bay (status ≡ Device))
    × IsNotOpened bay serve.conf output status)

-- What a server does.
pub record ServesLinks {B D : Type 0} (bay : BayChange B D) (output : OutputChange)
    (server : ServerChange D) (serve : ServeWords) (status : Status) : Type 0 where
  -- what the status says of where links came from, of what was written, and of the disks
  pub ends : IsServe bay output server serve status
  -- over a sound bay no disk fails the opening
  pub sound : IsSound bay.seen bay.disk_seen bay.old → status ≢ Device
  -- Where the disks stand for logs and states, and no count of the listener, the spawner or the
  -- output rose, all that was asked is served, or no memory was found; or a count of the bay or of
  -- a disk rose in the opening, which is then all that was done.
  pub complete : HoldsStates bay serve.conf
      → (Rose server.listener.faults server.listener.faults_after → ⊥)
      → (Rose server.spawner.faults server.spawner.faults_after → ⊥)
      → (Rose output.faults output.faults_after → ⊥)
      → (status ≡ Done) ⊎ ((status ≡ NoMemory) ⊎ ((status ≡ Device) × CountRose bay serve.conf))
  -- a disk that isn't the broker's is as it was
  pub others : LeavesOthers bay (IsTaken serve.conf)

-- No disk is out behind a command. Where a server found no memory, disks may be.
abbrev pub IsBack : {B D : Type 0} → (B → BayView D) → List (String Global) → B → ℕ → Type 0
IsBack bay_seen words new number = (AreOfServe words → number ≢ 8) → NoneIsOut bay_seen new
