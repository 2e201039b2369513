-- The locks of one server by name, and how serving its links ended. This project's own.
-- For example a server with two workers names its locks once; the three rows of passes that its jobs hand back are of just these locks, and all
-- that was done through them are served links and turns of expiries.
use Rattle.std.specs.Prelude.{◌≡◌, ◌⊎◌, ℕ, Bool, true, List, Option, Some, None}
use Rattle.edge_io.specs.Causes.{Rose}
use Rattle.edge_io.specs.Serving.{Gave}
use Rattle.edge_io.specs.Views.{DiskView}
use Rattle.broker_locks.specs.Acting.{HostsAll}
use Rattle.broker_locks.specs.Rows.{IsAlone}
use Rattle.broker_locks.specs.Shared.{PassesParts, SharedParts}
use Rattle.broker_run.specs.Working.{HasWorked}
use Rattle.broker_run.specs.declared.jobs.LinksEnd.{LinksEnd}
use Rattle.broker_run.specs.declared.jobs.LinksEnd.TheVariants.{Served, Listener, Refused, NoMemory}

module _ {D K C : Type 0} (seen : D → DiskView) (left held : K → Option (List ℕ)) (told : C → Option (List ℕ)) where
  -- a row of passes of the locks that are named, each of which stands for itself alone, through which jobs worked
  abbrev pub IsHome : Option (SharedParts D) → PassesParts D → Type 0
  IsHome None passes = ⊥
  IsHome (Some shared) passes = IsAlone shared passes × HasWorked seen left held told shared passes

module _ {D : Type 0} where
  -- these are the locks that are named, one for each hosted partition among them
  pub record IsNamed (named : Option (SharedParts D)) (shared : SharedParts D) : Type 0 where
    pub is : named ≡ Some shared
    pub hosts : HostsAll shared.conf shared

-- Why serving ended: as many links were given as were asked for, or the listener told that no more come; the listener failed; a job was refused,
-- and no link was taken; or no memory was found.
abbrev pub HasLinksEnd : LinksEnd → (accept given now_given : ℕ) → (done : Bool) → (faults now_faults refusals now_refusals : ℕ) → Type 0
HasLinksEnd Served accept given now_given done faults now_faults refusals now_refusals = Gave given accept now_given ⊎ (done ≡ true)
HasLinksEnd Listener accept given now_given done faults now_faults refusals now_refusals = Rose faults now_faults
HasLinksEnd Refused accept given now_given done faults now_faults refusals now_refusals = (now_given ≡ given) × Rose refusals now_refusals
HasLinksEnd NoMemory accept given now_given done faults now_faults refusals now_refusals = Unit {0}
