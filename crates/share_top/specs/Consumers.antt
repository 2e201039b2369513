-- A share consumer, and what its status says (this project's own).
-- For example `consume --count 3` of a topic with three records has status 0: its output holds three lines behind what it
-- held, and each of the three was acknowledged.
use Rattle.std.specs.Prelude.{◌≡◌, ◌⊎◌, false}
use Rattle.edge_io.specs.Causes.{Rose}
use Rattle.share_client.specs.declared.conf.ClientConf.{ClientConf}
use Rattle.consume_run.specs.declared.end.ConsumeEnd.{ConsumeEnd}
use Rattle.consume_run.specs.declared.end.ConsumeEnd.TheVariants as end
use Rattle.consume_run.specs.Consuming.{ComesByJobs, ComesByLinks, ComesByOutput, Consumes, GoesWell}
use Rattle.share_top.specs.declared.status.Status.{Status}
use Rattle.share_top.specs.declared.status.Status.TheVariants.{Done, WriteFault, NoMemory, Listener, Spawner, Lost, Refused, Strange}
use Rattle.share_top.specs.Changes.{ListenerChange, OutputChange, SpawnerChange}

abbrev pub consume_status : ConsumeEnd → Status
consume_status end.Done = Done
consume_status (end.Refused code) = Refused
consume_status (end.Strange place) = Strange
consume_status end.Unacknowledged = Lost
consume_status end.NoLink = Lost
consume_status end.Output = WriteFault
consume_status end.Listener = Listener
consume_status end.Spawner = Spawner
consume_status end.NoMemory = NoMemory

-- A consumer ended so: its core's trace says whether it ends and what was written, and else the listener had no more
-- links, or a count rose.
pub record EndsConsuming (output : OutputChange) (listener : ListenerChange) (spawner : SpawnerChange)
    (conf : ClientConf) (end : ConsumeEnd) : Type 0 where
  pub consumes : Consumes conf output.held output.held_after end
  pub links : ComesByLinks end listener.done listener.faults listener.faults_after
  pub writes : ComesByOutput end output.faults output.faults_after
  pub jobs : ComesByJobs end spawner.faults spawner.faults_after

-- no count rose, and the listener has more links
pub record IsServedWell (output : OutputChange) (listener : ListenerChange) (spawner : SpawnerChange) : Type 0 where
  pub no_write_fault : Rose output.faults output.faults_after → ⊥
  pub no_link_fault : Rose listener.faults listener.faults_after → ⊥
  pub no_job_fault : Rose spawner.faults spawner.faults_after → ⊥
  pub more_links : listener.done ≡ false

-- What a consumer does.
pub record ConsumesRecords (output : OutputChange) (listener : ListenerChange) (spawner : SpawnerChange)
    (conf : ClientConf) (status : Status) : Type 0 where
  pub end : ConsumeEnd
  pub status_is : status ≡ consume_status end
  pub ends : EndsConsuming output listener spawner conf end
  -- where nothing failed, no link was lost, and no reply was refused or can't be, all is done, or no memory was found
  pub complete : IsServedWell output listener spawner → GoesWell ends.consumes.trace
      → (status ≡ Done) ⊎ (status ≡ NoMemory)
