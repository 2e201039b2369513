-- Calls of the two disks of a shard's states, one after the other.
use Rattle.std.proofs.Common.{◌≡◌, ◌⊎◌, ⊎_elim, ◌∙◌, inl, inr, ap, subst, arith, ◌≤◌}
use Rattle.edge_io.proofs.Runs.{runs_none, runs_then}
use Rattle.edge_io.specs.Armed.{RunsOn, StarvesUnarmed}
use Rattle.edge_io.specs.Views.{DiskView}
use Rattle.coord_checkpoint.specs.Disks.{HasFailed}
use Rattle.share_coord.specs.Parts.{StoreParts}
use Rattle.share_part.specs.Failures.{AreQuiet, FailuresRose, RunOnBoth, StarveUnarmed, failures_of}

module _ {D : Type 0} (seen : D → DiskView) where
  -- on one disk: what starved stays so, and what wasn't armed isn't
  starve_on : (old mid new : D) → StarvesUnarmed seen old mid → RunsOn seen old mid → RunsOn seen mid new → StarvesUnarmed seen old new
  starve_on old mid new h runs more told bare = more.stays (runs.told ∙ told) (h told bare)

  starve_behind : (old mid new : D) → RunsOn seen old mid → StarvesUnarmed seen mid new → StarvesUnarmed seen old new
  starve_behind old mid new runs h told bare = h (runs.told ∙ told) (runs.unarmed told bare)

  pub run_none : (store : StoreParts D) → RunOnBoth seen store store
  run_none store = (runs_none seen store.journal.first.disk, runs_none seen store.journal.second.disk)

  pub run_same : (old new : StoreParts D) → new ≡ old → RunOnBoth seen old new
  run_same old new same = subst (λ (s : StoreParts D). RunOnBoth seen s new) same (run_none new)

  pub run_then : (old mid new : StoreParts D) → RunOnBoth seen old mid → RunOnBoth seen mid new → RunOnBoth seen old new
  run_then old mid new p q = (
    runs_then seen old.journal.first.disk mid.journal.first.disk new.journal.first.disk p.0 q.0,
    runs_then seen old.journal.second.disk mid.journal.second.disk new.journal.second.disk p.1 q.1,
  )

  module _ (old new : StoreParts D) where
    -- no fewer calls have failed
    pub later_both : RunOnBoth seen old new → failures_of seen old ≤ failures_of seen new
    later_both runs = let first = runs.0.later in let second = runs.1.later in omega (arith, first, second)

    abbrev pub EitherFailed : Type 0
    EitherFailed = HasFailed seen old.journal.first.disk new.journal.first.disk ⊎ HasFailed seen old.journal.second.disk new.journal.second.disk

    pub rose_either : RunOnBoth seen old new → EitherFailed → FailuresRose seen old new
    rose_either runs failed = ⊎_elim
        (λ h. let rose = h.0 in let other = runs.1.later in omega (arith, rose, other))
        (λ h. let rose = h.0 in let other = runs.0.later in omega (arith, rose, other)) failed

    pub starve_either : EitherFailed → StarveUnarmed seen old new
    starve_either failed = ⊎_elim (λ h. inl h.1) (λ h. inr h.1) failed

    -- where nothing has changed no call was made
    pub quiet_same : new ≡ old → AreQuiet seen old new
    quiet_same same = inl (
      λ told. ap (λ (s : StoreParts D). (seen s.journal.first.disk).faults) same,
      λ told. ap (λ (s : StoreParts D). (seen s.journal.second.disk).faults) same,
    )

  module _ (old mid new : StoreParts D) where
    pub starve_then : StarveUnarmed seen old mid → RunOnBoth seen old mid → RunOnBoth seen mid new → StarveUnarmed seen old new
    starve_then starved runs more = ⊎_elim
        (λ h. inl (starve_on old.journal.first.disk mid.journal.first.disk new.journal.first.disk h runs.0 more.0))
        (λ h. inr (starve_on old.journal.second.disk mid.journal.second.disk new.journal.second.disk h runs.1 more.1)) starved

    pub then_starve : RunOnBoth seen old mid → StarveUnarmed seen mid new → StarveUnarmed seen old new
    then_starve runs starved = ⊎_elim
        (λ h. inl (starve_behind old.journal.first.disk mid.journal.first.disk new.journal.first.disk runs.0 h))
        (λ h. inr (starve_behind old.journal.second.disk mid.journal.second.disk new.journal.second.disk runs.1 h)) starved
