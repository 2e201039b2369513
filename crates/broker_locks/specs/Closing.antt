-- What is left of a broker's shards when their locks are closed, and how their disks are put back. This project's own.
-- For example two threads produced a batch each to partition 0 of `orders`, the one of them with a fault of the log's disk. The contents
-- that are put back stand for a log of the other's batch, with or without that one.
use Rattle.std.specs.Prelude.{◌≡◌, ◌≤◌, ℕ, List, [], ◌∷◌, false}
use Rattle.std.specs.List.{AllZip}
use Rattle.edge_io.specs.Bays.{SameSlot}
use Rattle.edge_io.specs.Causes.{Rose}
use Rattle.edge_io.specs.Views.{BayView, DiskView}
use Rattle.foreign_coord.specs.Shards.{ForeignShardState, Carries as CarriesForeign}
use Rattle.share_part.specs.Shards.{Carries, PartShardState}
use Rattle.shard_lock.specs.History.{Leads}
use Rattle.shard_lock.specs.Passes.{LockParts, PassParts}
use Rattle.topic_conf.specs.Configs.{ConfigParts}
use Rattle.broker_model.specs.Hosted.{IsOneOf, IsTaken}
use Rattle.broker_model.specs.Shards.{HostedPart, Shards}
use Rattle.broker_hosts.specs.Bays.{AreOut, ArePutBack, HasRisen, TellsStill}
use Rattle.broker_hosts.specs.Carried.{IsCarried, IsPartCarried}
use Rattle.broker_hosts.specs.Hosts.{AreCarried, PartStandsAlone, StandAlone, StandStill, disks_in}
use Rattle.broker_shards.specs.Acts.{ActsForeign, ActsMembers, ActsPart}
use Rattle.broker_shards.specs.Hosts.{Host, holding}
use Rattle.broker_shards.specs.declared.foreign.ForeignEvent.{ForeignEvent}
use Rattle.broker_shards.specs.declared.foreign.ForeignHost.{ForeignHost}
use Rattle.broker_shards.specs.declared.part.PartEvent.{PartEvent}
use Rattle.broker_locks.specs.Histories.{IsHistory, StepsStates}
use Rattle.broker_locks.specs.Opening.{hosted_in, hosts_of, names_in}
use Rattle.broker_locks.specs.Rows.{Ends, foreign_in, members_in, parts_in}
use Rattle.broker_locks.specs.Shared.{PartAnswer, PassesParts, ShardParts, SharedParts, StateAnswer, first_shards}

-- ---- what is left

-- A legal history leads from the partition as its lock was made to this one, and has exactly the entries of the passes that were given. From
-- each state for which the first one stood it leads to one for which this one stands, whether the disks tell their contents or not. Where they
-- do, each image of them stands for that state now, its log and its tables each with or without the pending write.
pub record LeavesPart {D : Type 0} (seen : D → DiskView) (given : List (PassParts (Host D) PartEvent PartAnswer)) (lock : LockParts (Host D))
    (last : Host D) : Type 0 where
  pub ends : Ends (ActsPart seen) given lock last
  pub same : (last.topic ≡ lock.first.topic) × (last.conf ≡ lock.first.conf)
  pub leads : (s : PartShardState) → Carries seen holding lock.first.part s → (t : PartShardState)
      × IsHistory seen (lock.first, s) ends.pass.seen (last, t) × Carries seen holding last.part t
  pub stands : (s : PartShardState) → IsPartCarried seen lock.first.conf lock.first.part s → (t : PartShardState)
      × IsHistory seen (lock.first, s) ends.pass.seen (last, t)
      × PartStandsAlone seen lock.first.conf t last.part.log.journal.disk last.part.states.journal.first.disk last.part.states.journal.second.disk

-- the same of foreign state
pub record LeavesForeign {D : Type 0} (seen : D → DiskView) (given : List (PassParts (ForeignHost D) ForeignEvent StateAnswer))
    (lock : LockParts (ForeignHost D)) (last : ForeignHost D) : Type 0 where
  pub ends : Ends (ActsForeign seen) given lock last
  pub leads : (s : ForeignShardState) → CarriesForeign seen lock.first.foreign s → (t : ForeignShardState)
      × Leads (StepsStates seen) (lock.first, s) ends.pass.seen (last, t) × CarriesForeign seen last.foreign t
  pub stands : (s : ForeignShardState) → IsCarried seen lock.first.foreign s → (t : ForeignShardState)
      × Leads (StepsStates seen) (lock.first, s) ends.pass.seen (last, t)
      × StandAlone seen t last.foreign.journal.first.disk last.foreign.journal.second.disk

-- all shards, by the passes of these rows
pub record AreLeft {D : Type 0} (seen : D → DiskView) (rows : List (PassesParts D)) (shared : SharedParts D) (last : ShardParts D) : Type 0 where
  pub parts : AllZip (LeavesPart seen (parts_in rows)) shared.parts last.parts
  pub members : Ends ActsMembers (members_in rows) shared.members last.members
  pub foreign : LeavesForeign seen (foreign_in rows) shared.foreign last.foreign

-- the states of partitions before and behind, which the histories of their locks lead to
abbrev pub PartsLead : {D : Type 0} → (seen : D → DiskView) (given : List (PassParts (Host D) PartEvent PartAnswer)) (locks : List (LockParts (Host D)))
    (last : List (Host D)) → AllZip (LeavesPart seen given) locks last → List HostedPart → List HostedPart → Type 0
PartsLead seen given [] [] left [] [] = Unit {0}
PartsLead seen given [] [] left [] (q ∷ new) = ⊥
PartsLead seen given [] [] left (p ∷ old) new = ⊥
PartsLead seen given [] (h ∷ last) left old new = ⊥
PartsLead seen given (l ∷ locks) [] left old new = ⊥
PartsLead seen given (l ∷ locks) (h ∷ last) left [] new = ⊥
PartsLead seen given (l ∷ locks) (h ∷ last) left (p ∷ old) [] = ⊥
PartsLead seen given (l ∷ locks) (h ∷ last) left (p ∷ old) (q ∷ new) = (q.hosted ≡ p.hosted)
    × IsHistory seen (l.first, p.shard) left.0.ends.pass.seen (h, q.shard) × PartsLead seen given locks last left.1 old new

-- From these states of all shards the histories lead to states for which the disks stand now, each shard with or without its pending writes.
pub record StandBehind {D : Type 0} (seen : D → DiskView) (rows : List (PassesParts D)) (shared : SharedParts D) (last : ShardParts D)
    (left : AreLeft seen rows shared last) (before : Shards) : Type 0 where
  pub after : Shards
  pub parts : PartsLead seen (parts_in rows) shared.parts last.parts left.parts before.parts after.parts
  pub members : after.members ≡ last.members.members
  pub foreign : Leads (StepsStates seen) (shared.foreign.first, before.foreign) left.foreign.ends.pass.seen (last.foreign, after.foreign)
  pub still : StandStill seen after (disks_in (hosts_of last))

-- ---- disks

-- The disks of these shards are put back into the bay from which they were taken: each is told there, none is out, and the bay's count rises
-- where one of theirs rose. A disk that isn't the broker's is as it was.
pub record ArePut {B D : Type 0} (bay_seen : B → BayView D) (seen : D → DiskView) (conf : ConfigParts) (old : B) (shards : ShardParts D)
    (new : B) : Type 0 where
  pub back : ArePutBack bay_seen old new (disks_in (hosts_of shards))
  pub are_in : (name : List ℕ) → IsOneOf (names_in shards) name → (bay_seen new).out name ≡ false
  pub none_out : AreOut bay_seen (names_in shards) old → AreOut bay_seen [] new
  pub noted : (name : List ℕ) → (bay_seen new).taken name ≡ (bay_seen old).taken name
  pub others : (name : List ℕ) → (IsTaken conf name → ⊥) → SameSlot bay_seen name old new
  pub rises : HasRisen bay_seen seen old (disks_in (hosts_of shards)) → Rose (bay_seen old).faults (bay_seen new).faults
  pub later : (bay_seen old).faults ≤ (bay_seen new).faults
  pub told : TellsStill bay_seen old new

-- what closing the locks with these rows of passes leaves
pub record Closes {B D : Type 0} (bay_seen : B → BayView D) (seen : D → DiskView) (shared : SharedParts D) (rows : List (PassesParts D))
    (old new : B) : Type 0 where
  pub last : ShardParts D
  pub hosts : hosted_in last ≡ hosted_in (first_shards shared)
  pub left : AreLeft seen rows shared last
  pub stand : (s : Shards) → AreCarried seen (hosts_of (first_shards shared)) s → StandBehind seen rows shared last left s
  pub put : ArePut bay_seen seen shared.conf old last new
