-- What a call makes of a partition's shard, and which of its disks it uses. This project's own.
-- For example a produce uses the disk of the log, and leaves those of the states as they were.
use Rattle.std.specs.Prelude.{◌≡◌, ◌⊎◌, ℕ, false}
use Rattle.edge_io.specs.Disk.{IsTold}
use Rattle.share_model.specs.declared.visit.Then.{Then}
use Rattle.share_part.specs.Hosting.{PartConfParts}
use Rattle.share_part.specs.Shards.{PartShardState, Carries}
use Rattle.broker_model.specs.Acting.{EndsGoOn, StepsOn}
use Rattle.broker_model.specs.Shards.{PartCall, reads_log}
use Rattle.broker_model.specs.Shards.PartCall.{Visits, Produces, Looks, Expires, Deletes}
use Rattle.broker_model.specs.Disks.{IsUsed, facts_of}
use Rattle.broker_shards.specs.Acts.{CanBeTold, asked_by, told_by}
use Rattle.broker_shards.specs.Acts.PartDeed.{Calls}
use Rattle.broker_shards.specs.Hosts.{holding}
use Rattle.broker_shards.specs.declared.part.PartAsk.{PartAsk}
use Rattle.broker_shards.specs.declared.part.PartTold.{PartTold}
use Rattle.edge_io.specs.Views.{DiskView}
use Rattle.broker_hosts.specs.Carried.{GoesOn, IsPartCarried, OpenPart}

-- its three disks go on
pub record PartGoesOn {D : Type 0} (seen : D → DiskView) (old new : OpenPart D) : Type 0 where
  pub log : GoesOn seen old.log.journal.disk new.log.journal.disk
  pub first : GoesOn seen old.states.journal.first.disk new.states.journal.first.disk
  pub second : GoesOn seen old.states.journal.second.disk new.states.journal.second.disk

-- an expiry uses the two disks of the states alone, a batch or a delete that of the log, and a look none
pub record UsesStates {D : Type 0} (seen : D → DiskView) (old new : OpenPart D) : Type 0 where
  pub used : IsUsed (facts_of seen old.states.journal.first.disk) (facts_of seen new.states.journal.first.disk)
  pub second_used : IsUsed (facts_of seen old.states.journal.second.disk) (facts_of seen new.states.journal.second.disk)
  pub log : new.log ≡ old.log

pub record UsesLog {D : Type 0} (seen : D → DiskView) (old new : OpenPart D) : Type 0 where
  pub used : IsUsed (facts_of seen old.log.journal.disk) (facts_of seen new.log.journal.disk)
  pub states : new.states.journal ≡ old.states.journal

-- a visit uses the two disks of the states, and a fetch that of the log besides
pub record UsesVisit {D : Type 0} (seen : D → DiskView) (asked : Then) (old new : OpenPart D) : Type 0 where
  pub used : IsUsed (facts_of seen old.states.journal.first.disk) (facts_of seen new.states.journal.first.disk)
  pub second_used : IsUsed (facts_of seen old.states.journal.second.disk) (facts_of seen new.states.journal.second.disk)
  pub log_used : IsUsed (facts_of seen old.log.journal.disk) (facts_of seen new.log.journal.disk)
  pub log : reads_log asked ≡ false → new.log ≡ old.log
  pub log_end : new.log.journal.end ≡ old.log.journal.end

abbrev pub Uses : {D : Type 0} → (D → DiskView) → OpenPart D → OpenPart D → PartCall → Type 0
Uses seen old new (Visits visit answer unread) = UsesVisit seen visit.then old new
Uses seen old new (Produces batch produced) = UsesLog seen old new
Uses seen old new (Looks group looked) = new ≡ old
Uses seen old new (Expires answer) = UsesStates seen old new
Uses seen old new (Deletes to answer) = UsesLog seen old new

-- this call of the machine was asked so and told so, in numbers that a reply can say
pub record IsCall (asked : PartAsk) (told : PartTold) (did : PartCall) : Type 0 where
  pub asks : asked ≡ asked_by (Calls did)
  pub tells : told ≡ told_by (Calls did)
  pub tellable : CanBeTold (Calls did)

-- from the shard that it stood for, it stands for one now to which this call led
pub record LeadsPart {D : Type 0} (seen : D → DiskView) (conf : PartConfParts) (now : ℕ) (did : PartCall)
    (old : OpenPart D) (shard : PartShardState) (new : OpenPart D) : Type 0 where
  pub after : PartShardState
  pub carried : IsPartCarried seen conf new after
  pub step : StepsOn seen conf old new now shard did after
  pub ends : EndsGoOn old new
  pub used : Uses seen old new did

-- No memory was found: nothing was done in the shard, or such a call was done whole. The disks tell their contents
-- still.
pub record HaltsPart {D : Type 0} (seen : D → DiskView) (conf : PartConfParts) (now : ℕ)
    (Whole : PartCall → Type 0) (old : OpenPart D) (shard : PartShardState) (new : OpenPart D) : Type 0 where
  pub after : PartShardState
  pub conf_is : new.conf ≡ conf
  pub carries : Carries seen holding new after
  pub does : (after ≡ shard) ⊎ ((did : PartCall) × Whole did × StepsOn seen conf old new now shard did after)
  pub ends : EndsGoOn old new
  pub log_told : IsTold (seen new.log.journal.disk).content
  pub first_told : IsTold (seen new.states.journal.first.disk).content
  pub second_told : IsTold (seen new.states.journal.second.disk).content
