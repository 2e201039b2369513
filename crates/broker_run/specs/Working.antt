-- What the jobs of a server do through the passes that they are given: they serve links and do turns of expiries, and nothing else. This
-- project's own. For example a worker that serves two links and hands its passes back has done two tasks: what the first link's connection asked
-- and released, entry by entry, and then the same of the second one.
use Rattle.std.specs.Prelude.{◌⊎◌, ℕ, zero, suc, List, Option}
use Rattle.edge_io.specs.Views.{DiskView}
use Rattle.broker_locks.specs.Expiring.{IsTurn}
use Rattle.broker_locks.specs.Rows.{IsUnused}
use Rattle.broker_run.specs.Serving.{IsServed}
use Rattle.broker_locks.specs.Shared.{PassesParts, SharedParts}
use Rattle.broker_run.specs.declared.connection.Ended.{Ended}
use Rattle.broker_locks.specs.declared.expiry.TurnAnswer.{TurnAnswer}

module _ {D : Type 0} (seen : D → DiskView) (shared : SharedParts D) where
  -- a link was served up to some end
  abbrev pub HasServed : (old new : PassesParts D) → (left later held grown told last_told : Option (List ℕ)) → Type 0
  HasServed old new left later held grown told last_told =
      (ended : Ended) × IsServed shared.conf seen shared old new left later held grown told last_told ended

  -- a whole turn of expiries was done
  abbrev pub HasExpired : (old new : PassesParts D) → (told later : Option (List ℕ)) → Type 0
  HasExpired old new told later = (answer : TurnAnswer) × IsTurn seen shared answer old new told later

-- for links of one type and clocks of one type, by what they tell of themselves
module _ {D K C : Type 0} (seen : D → DiskView) (left held : K → Option (List ℕ)) (told : C → Option (List ℕ)) (shared : SharedParts D) where
  -- a link was served, or a turn of expiries was done
  abbrev pub IsTask : (old new : PassesParts D) → Type 0
  IsTask old new =
      ((link behind : K) × (clock later : C)
      × HasServed seen shared old new (left link) (left behind) (held link) (held behind) (told clock) (told later))
      ⊎ ((clock later : C) × HasExpired seen shared old new (told clock) (told later))

  -- so many tasks, one after the other, beginning with passes through which nothing was done
  abbrev pub HasDone : ℕ → PassesParts D → Type 0
  HasDone zero passes = IsUnused passes
  HasDone (suc tasks) passes = (before : PassesParts D) × HasDone tasks before × IsTask before passes

  -- all that was done through the passes are such tasks
  abbrev pub HasWorked : PassesParts D → Type 0
  HasWorked passes = (tasks : ℕ) × HasDone tasks passes
