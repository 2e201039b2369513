-- A server from the opening of its shards to their closing. This project's own.
-- For example a server over a fresh bay to which one link produced a batch: the shards are those of an opening of empty disks, the one history of
-- partition 0 has that produce among its expiries, which one job did in its turns and another one as it served the link, and the log that is put
-- back has the batch.
use Rattle.std.specs.Prelude.{◌≡◌, List, []}
use Rattle.std.specs.List.{AllByRecursion}
use Rattle.edge_io.specs.Views.{BayView, DiskView}
use Rattle.topic_conf.specs.Configs.{ConfigParts}
use Rattle.broker_hosts.specs.Bays.{AreOut, TellsStill}
use Rattle.broker_hosts.specs.declared.fault.CoreOpen.{CoreOpen}
use Rattle.broker_locks.specs.Closing.{Closes}
use Rattle.broker_locks.specs.Opening.{IsOpening}
use Rattle.broker_locks.specs.Shared.{PassesParts, SharedParts, first_shards}
use Rattle.broker_run.specs.declared.jobs.LinksEnd.{LinksEnd}
use Rattle.broker_run.specs.declared.server.Served.{Served}
use Rattle.broker_run.specs.declared.server.Served.TheVariants.{Refused, Ended}

-- The shards are those of the opening of what the bay tells, and jobs worked through rows of passes of their locks. What is put back is what the
-- histories of the locks leave, which have exactly the entries of these passes. No disk is out then, and one that told its contents tells them.
pub record Serves {B D : Type 0} (bay_seen : B → BayView D) (seen : D → DiskView) (Worked : SharedParts D → PassesParts D → Type 0)
    (conf : ConfigParts) (old new : B) : Type 0 where
  pub shared : SharedParts D
  pub configured : shared.conf ≡ conf
  pub opened : B
  pub opens : IsOpening bay_seen seen conf old opened (first_shards shared)
  pub rows : List (PassesParts D)
  pub worked : AllByRecursion (Worked shared) rows
  pub closes : Closes bay_seen seen shared rows opened new
  pub told : TellsStill bay_seen old new
  pub back : AreOut bay_seen [] new

abbrev pub EndsServing : Served → (Refuses : CoreOpen → Type 0) → (Serves : LinksEnd → Type 0) → Type 0
EndsServing (Refused fault) Refuses Serves = Refuses fault
EndsServing (Ended end) Refuses Serves = Serves end
