-- The shard of a hosted partition in memory takes the machine's step, by the counts of faults of its own disks and the ends of its own
-- journals. This project's own.
-- For example a batch is answered with a fault of its device exactly where a call of the log's disk failed,
-- acknowledgements only where one of both state disks' calls did, and a call that only looks leaves all as it was.
use Rattle.std.specs.Prelude.{◌≡◌, ◌≤◌, ℕ}
use Rattle.edge_io.specs.Causes.{Rose}
use Rattle.edge_io.specs.Disk.{IsTold}
use Rattle.edge_io.specs.Views.{DiskView}
use Rattle.share_model.specs.ForeignRules.{share_state_at}
use Rattle.share_part.specs.Deleting.{StepsDelete}
use Rattle.share_part.specs.Expiring.{StepsExpire}
use Rattle.share_part.specs.Failures.{failures_of}
use Rattle.share_part.specs.Hosting.{PartConfParts, key_of}
use Rattle.share_part.specs.Once.{reading_of}
use Rattle.share_part.specs.Shards.{PartParts, PartShardState, StepsProduce}
use Rattle.share_part.specs.Visits.{StepsVisit}
use Rattle.broker_model.specs.Shards.{PartCall, log_faults_met, look_at, result_of}
use Rattle.broker_model.specs.Shards.PartCall.{Visits, Produces, Looks, Expires, Deletes}

-- the journal of its log never ends before where it did
pub record EndsGoOn {D W : Type 0} (old new : PartParts D W) : Type 0 where
  pub log : old.log.journal.end ≤ new.log.journal.end

-- The shard takes the step of this call, by the counts of its own disks and the ends of its own journals.
abbrev pub TakesStep : {D W : Type 0} → (D → DiskView) → PartConfParts → PartParts D W → PartParts D W → (now : ℕ) → PartShardState → PartCall → PartShardState
    → Type 0
TakesStep seen conf old new now shard (Visits visit answer unread) after =
    StepsVisit conf (reading_of seen old.log new.log unread)
    (failures_of seen old.states) (failures_of seen new.states) old.states.journal.end new.states.journal.end shard now visit answer after
TakesStep seen conf old new now shard (Produces batch produced) after =
    StepsProduce (Rose (seen old.log.journal.disk).faults (seen new.log.journal.disk).faults) old.log.journal.end shard now batch (result_of produced) after
TakesStep seen conf old new now shard (Looks group looked) after =
    (looked ≡ look_at (share_state_at shard.states (key_of conf group))) × (after ≡ shard)
TakesStep seen conf old new now shard (Expires answer) after =
    StepsExpire conf (failures_of seen old.states) (failures_of seen new.states) old.states.journal.end new.states.journal.end shard now answer after
TakesStep seen conf old new now shard (Deletes to answer) after =
    StepsDelete (Rose (seen old.log.journal.disk).faults (seen new.log.journal.disk).faults) old.log.journal.end shard now to answer after

-- It takes that step, and its answer tells each failed call of the log's disk: where it tells none, none failed, if
-- that disk tells its content.
pub record StepsOn {D W : Type 0} (seen : D → DiskView) (conf : PartConfParts) (old new : PartParts D W) (now : ℕ)
    (shard : PartShardState) (did : PartCall) (after : PartShardState) : Type 0 where
  pub step : TakesStep seen conf old new now shard did after
  pub quiet : log_faults_met did ≡ 0 → IsTold (seen old.log.journal.disk).content
      → (seen new.log.journal.disk).faults ≡ (seen old.log.journal.disk).faults
