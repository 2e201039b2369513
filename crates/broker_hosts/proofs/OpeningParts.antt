-- Openings of a hosted partition.
use Rattle.std.proofs.Common.{◌≡◌, ◌⊎◌, inl, inr, sym, ◌∙◌, subst, ℕ, List, Bool, true, false, Some, ◌↔◌}
use Rattle.edge_io.specs.Armed.{RunsOn}
use Rattle.part_log.specs.Logs.{log_in}
use Rattle.share_coord.specs.States.{states_of}
use Rattle.share_part.specs.Hosting.{PartConfParts}
use Rattle.share_part.specs.Leaving.{IsLeftOf}
use Rattle.edge_io.specs.declared.name.DiskPlace.{DiskPlace}
use Rattle.edge_io.specs.declared.name.DiskPlace.TheVariants.{Log as LogDisk, LogB, StateA, StateB}
use Rattle.coord_checkpoint.specs.Disks.{HasFailed}
use Rattle.share_part.specs.Opening.{IsNotOpened, IsOpened}
use Rattle.share_part.specs.declared.opening.PartFault.{PartFault}
use Rattle.share_part.specs.declared.opening.PartFault.TheVariants.{Device}
use Rattle.share_part.specs.Shards.{Carries, PartShardState}
use Rattle.share_part.proofs.Leavings.{left_of}
use Rattle.broker_hosts.specs.Carried.{IsPartCarried, OpenPart}
use Rattle.broker_shards.specs.Hosts.{holding}
use Rattle.broker_hosts.specs.Openings.{IsOpenedPart}
use Rattle.broker_hosts.proofs.Opening.{opened_disk, told_of, unless}
use Rattle.edge_io.specs.Views.{DiskView}

-- a partition that a device fault kept from being opened has a disk of these three that failed
pub one_failed : {D : Type 0} (seen : D → DiskView) (conf : PartConfParts) (log a b log_now a_now b_now : D) (why : PartFault) (disk : DiskPlace)
    → IsNotOpened seen conf log a b log_now a_now b_now why → why ≡ Device disk
    → HasFailed seen log log_now ⊎ (HasFailed seen a a_now ⊎ HasFailed seen b b_now)
one_failed seen conf log a b log_now a_now b_now why LogDisk r is = inl (r.log_device is)
one_failed seen conf log a b log_now a_now b_now why LogB r is = absurd (r.log_b_device is)
one_failed seen conf log a b log_now a_now b_now why StateA r is = inr (inl (r.first_device is))
one_failed seen conf log a b log_now a_now b_now why StateB r is = inr (inr (r.second_device is))

-- no disk is starved where none of three is
pub fed_three : (starves a b c : Bool) → starves ≡ false → ((starves ≡ true) ↔ ((a ≡ true) ⊎ ((b ≡ true) ⊎ (c ≡ true))))
    → (a ≡ false) × (b ≡ false) × (c ≡ false)
fed_three starves a b c not either = (
  unless a (λ e. clash (sym not ∙ either.1 (inl e))),
  unless b (λ e. clash (sym not ∙ either.1 (inr (inl e)))),
  unless c (λ e. clash (sym not ∙ either.1 (inr (inr e)))),
)
  where
    clash : false ≡ true → ⊥
    clash e = cc

module _ {D : Type 0} (seen : D → DiskView) where
  abbrev Runs : D → D → Type 0
  Runs old new = RunsOn seen old new

  abbrev Carried : PartConfParts → OpenPart D → PartShardState → Type 0
  Carried conf part s = IsPartCarried seen conf part s

  -- the images of a partition that is carried
  pub images_left : (conf : PartConfParts) (part : OpenPart D) (s : PartShardState) → part.conf ≡ conf → Carries seen holding part s → (l a b : List ℕ)
      → (seen part.log.journal.disk).image l → (seen part.states.journal.first.disk).image a → (seen part.states.journal.second.disk).image b → IsLeftOf conf s l a b
  images_left conf part s conf_is k l a b on_log on_first on_second =
      subst (λ (c : PartConfParts). IsLeftOf c s l a b) conf_is (left_of seen holding part l a b on_log on_first on_second s k)

  pub part_left : (conf : PartConfParts) (part : OpenPart D) (s : PartShardState) → Carried conf part s → (l a b : List ℕ)
      → (seen part.log.journal.disk).image l → (seen part.states.journal.first.disk).image a → (seen part.states.journal.second.disk).image b → IsLeftOf conf s l a b
  part_left conf part s k = images_left conf part s k.conf_is k.carries

  pub opened_part : (conf : PartConfParts) (log first second : D) (l a b : List ℕ) (part : OpenPart D) → (seen log).content ≡ Some l → (seen first).content ≡ Some a
      → (seen second).content ≡ Some b → IsOpened seen holding conf log first second part → Runs log part.log.journal.disk
      → Runs first part.states.journal.first.disk → Runs second part.states.journal.second.disk → (seen part.log.journal.disk).starved ≡ false
      → (seen part.states.journal.first.disk).starved ≡ false → (seen part.states.journal.second.disk).starved ≡ false
      → IsOpenedPart seen conf log first second l a b part
  opened_part conf log first second l a b part is is_first is_second o runs first_runs second_runs fed first_fed second_fed = record {
    is = log_in part.log;
    states = states_of part.states.entries;
    carried = record {
      conf_is = o.conf_is;
      carries = o.carries;
      log = record { told = runs.told ∙ told_of (seen log).content l is; fed = fed };
      first = record { told = first_runs.told ∙ told_of (seen first).content a is_first; fed = first_fed };
      second = record { told = second_runs.told ∙ told_of (seen second).content b is_second; fed = second_fed };
    };
    stands = o.opens l a b is is_first is_second;
    only = λ other others h. let e = o.only l a b other others is is_first is_second h in (sym e.0, sym e.1);
    on_log = opened_disk seen log part.log.journal.disk runs (told_of (seen log).content l is) fed;
    on_first = opened_disk seen first part.states.journal.first.disk first_runs (told_of (seen first).content a is_first) first_fed;
    on_second = opened_disk seen second part.states.journal.second.disk second_runs (told_of (seen second).content b is_second) second_fed;
  }
