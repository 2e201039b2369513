-- What an act on a shard behind a lock tells and leaves. A shard in memory and its disks carry a state of the machine's shard; where an
-- act answers, they carry one then to which the machine's own step leads, and where it finds no memory, the one from before. This
-- project's own; the steps are those of a recorded session.
-- For example an offer tells of its group the first record that a fetch would find, and leaves the shard as it was; a tick at 50000 that removes two members tells 2.
use Rattle.std.specs.Prelude.{◌≡◌, ◌-◌, ◌^◌, ℕ, List, min, false, All, Option, Result, Ok, Err, ⊤}
use Rattle.edge_io.specs.Armed.{RunsOn}
use Rattle.edge_io.specs.Views.{DiskView}
use Rattle.flex_fields.specs.declared.fault.NoMemory.{NoMemory}
use Rattle.share_model.specs.Held.{Held}
use Rattle.share_model.specs.declared.fault.StoreFault.{StoreFault}
use Rattle.share_model.specs.declared.foreign.ForeignAnswer.{ForeignAnswer}
use Rattle.share_model.specs.declared.foreign.ForeignOp.{ForeignOp}
use Rattle.share_model.specs.declared.offer.Offer.{Offer}
use Rattle.share_model.specs.ForeignRules.{share_state_at}
use Rattle.call_fold.specs.Parts.{HasTellableBase, HasTellableStart, IsTellable, IsTellableLook, IsTellableVisit}
use Rattle.share_coord.specs.Parts.{StoreParts}
use Rattle.foreign_coord.specs.Once.{HasRisen}
use Rattle.foreign_coord.specs.Shards.{ForeignShardState, StepsForeign, Carries as CarriesForeign}
use Rattle.share_members.specs.Groups.{Memberships}
use Rattle.share_members.specs.Expiry.{removed}
use Rattle.share_part.specs.Hosting.{PartConfParts, key_of}
use Rattle.share_part.specs.Offering.{offer_of}
use Rattle.share_part.specs.Shards.{PartParts, PartShardState, Carries}
use Rattle.broker_model.specs.Acting.{EndsGoOn, StepsOn}
use Rattle.broker_model.specs.Shards.{PartCall, StepsMembers, reads_log}
use Rattle.broker_model.specs.Shards.PartCall.{Visits, Produces, Looks, Expires, Deletes}
use Rattle.broker_model.specs.Shards.MembersCall.{Beats, Ticks}
use Rattle.broker_shards.specs.declared.foreign.ForeignEvent.{ForeignEvent}
use Rattle.broker_shards.specs.declared.foreign.ForeignHost.{ForeignHost}
use Rattle.broker_shards.specs.declared.members.MembersAsk.{MembersAsk}
use Rattle.broker_shards.specs.declared.members.MembersAsk.TheVariants.{Heartbeat, Tick}
use Rattle.broker_shards.specs.declared.members.MembersEvent.{MembersEvent}
use Rattle.broker_shards.specs.declared.members.MembersHost.{MembersHost}
use Rattle.broker_shards.specs.declared.members.MembersTold.{MembersTold}
use Rattle.broker_shards.specs.declared.members.MembersTold.TheVariants as told_member
use Rattle.broker_shards.specs.declared.part.PartAsk.{PartAsk}
use Rattle.broker_shards.specs.declared.part.PartAsk.TheVariants as asks
use Rattle.broker_shards.specs.declared.part.PartEvent.{PartEvent}
use Rattle.broker_shards.specs.declared.part.PartTold.{PartTold}
use Rattle.broker_shards.specs.declared.part.PartTold.TheVariants as tells
use Rattle.broker_shards.specs.Crashes.{FoundOnForeign, FoundWithin}
use Rattle.broker_shards.specs.Hosts.{Host, holding}

-- ---- hosted partitions

-- What a partition does behind a lock: a call of the machine, or an offer, which no session knows: it tells a fetch that waits what it would find,
-- and changes nothing.
pub data PartDeed : Type 0 where
  Calls : PartCall → PartDeed
  Offers : (group : List ℕ) → Offer → PartDeed

-- what was asked of a partition that does this
abbrev pub asked_by : PartDeed → PartAsk
asked_by (Calls (Visits visit answer unread)) = asks.Visit visit
asked_by (Calls (Produces batch produced)) = asks.Produce batch
asked_by (Calls (Looks group looked)) = asks.Look group
asked_by (Calls (Expires answer)) = asks.Expire
asked_by (Calls (Deletes to answer)) = asks.Delete to
asked_by (Offers group offer) = asks.Offer group

-- and what it tells
abbrev pub told_by : PartDeed → PartTold
told_by (Calls (Visits visit answer unread)) = tells.Visit answer
told_by (Calls (Produces batch produced)) = tells.Produce produced
told_by (Calls (Looks group looked)) = tells.Look looked
told_by (Calls (Expires answer)) = tells.Expire answer
told_by (Calls (Deletes to answer)) = tells.Delete answer
told_by (Offers group offer) = tells.Offer offer

-- a reply can say its numbers
abbrev pub CanBeTold : PartDeed → Type 0
CanBeTold (Calls (Visits visit answer unread)) = IsTellableVisit answer
CanBeTold (Calls (Produces batch produced)) = HasTellableBase produced
CanBeTold (Calls (Looks group looked)) = IsTellableLook looked
CanBeTold (Calls (Expires answer)) = Unit {0}
CanBeTold (Calls (Deletes to answer)) = HasTellableStart answer
CanBeTold (Offers group offer) = Unit {0}

-- what a group is offered by a partition in this state
abbrev pub offer_at : PartConfParts → PartShardState → List ℕ → Offer
offer_at conf s group = offer_of s.log.batches (s.held group) (share_state_at s.states (key_of conf group))

-- it leads from the one state to the other: by the machine's step, or by none
abbrev pub StepsBy : {D W : Type 0} → (D → DiskView) → (old new : PartParts D W) → (now : ℕ) → PartShardState → PartDeed → PartShardState → Type 0
StepsBy seen old new now s (Calls call) after = StepsOn seen old.conf old new now s call after
StepsBy seen old new now s (Offers group offer) after = (offer ≡ offer_at old.conf s group) × (after ≡ s) × (new ≡ old)

-- What was asked and what was told are of something that a partition does. From each state that was carried, one is carried now to which that
-- leads.
pub record Answers {D W : Type 0} (seen : D → DiskView) (holding : W → Held) (now : ℕ) (asked : PartAsk) (told : PartTold)
    (old new : PartParts D W) : Type 0 where
  pub did : PartDeed
  pub asks : asked ≡ asked_by did
  pub tells : told ≡ told_by did
  pub tellable : CanBeTold did
  pub steps : (s : PartShardState) → Carries seen holding old s → (after : PartShardState) × Carries seen holding new after
      × StepsBy seen old new now s did after

-- no memory was found: what was carried is carried still
abbrev pub FindsNoMemory : {D W : Type 0} → (D → DiskView) → (W → Held) → PartParts D W → PartParts D W → Type 0
FindsNoMemory seen holding old new = (s : PartShardState) → Carries seen holding old s → Carries seen holding new s

-- an offer needs none
abbrev pub TakesMemory : PartAsk → Type 0
TakesMemory (asks.Offer group) = ⊥
TakesMemory (asks.Visit visit) = ⊤
TakesMemory (asks.Produce batch) = ⊤
TakesMemory (asks.Delete to) = ⊤
TakesMemory (asks.Look group) = ⊤
TakesMemory asks.Expire = ⊤

abbrev pub ActsOnPart : {D W : Type 0} → (D → DiskView) → (W → Held) → (now : ℕ) → PartAsk → PartParts D W → Result PartTold NoMemory → PartParts D W → Type 0
ActsOnPart seen holding now asked old (Ok told) new = Answers seen holding now asked told old new
ActsOnPart seen holding now asked old (Err fault) new = TakesMemory asked × FindsNoMemory seen holding old new

-- What each act leaves: its configuration stays. No power is lost, no fault is armed, and no count of faults falls on its disks. The journal of
-- the log never ends before where it did.
pub record GoesOnPart {D W : Type 0} (seen : D → DiskView) (holding : W → Held) (old new : PartParts D W) : Type 0 where
  pub conf : new.conf ≡ old.conf
  pub log : RunsOn seen old.log.journal.disk new.log.journal.disk
  pub first : RunsOn seen old.states.journal.first.disk new.states.journal.first.disk
  pub second : RunsOn seen old.states.journal.second.disk new.states.journal.second.disk
  pub ends : (s : PartShardState) → Carries seen holding old s → EndsGoOn old new

-- What an act doesn't use stays as it was: of a batch or a delete both journals of the states, of an expiry and of a visit that doesn't
-- fetch the log, of a look and of an offer all. No visit moves the end of the log's journal.
abbrev pub LeavesUnused : {D W : Type 0} → PartAsk → PartParts D W → PartParts D W → Type 0
LeavesUnused (asks.Visit visit) old new = (reads_log visit.then ≡ false → new.log ≡ old.log)
    × (new.log.journal.end ≡ old.log.journal.end)
LeavesUnused (asks.Produce batch) old new = new.states.journal ≡ old.states.journal
LeavesUnused (asks.Delete to) old new = new.states.journal ≡ old.states.journal
LeavesUnused (asks.Look group) old new = new ≡ old
LeavesUnused (asks.Offer group) old new = new ≡ old
LeavesUnused asks.Expire old new = new.log ≡ old.log

pub record ActsPart {D : Type 0} (seen : D → DiskView) (old : Host D) (event : PartEvent) (result : Result PartTold NoMemory) (new : Host D) : Type 0 where
  pub topic : new.topic ≡ old.topic
  pub conf : new.conf ≡ old.conf
  pub acts : ActsOnPart seen holding event.now event.ask old.part result new.part
  pub goes_on : GoesOnPart seen holding old.part new.part
  pub within : FoundWithin seen holding event.now event.ask old.part new.part
  pub unused : LeavesUnused event.ask old.part new.part

-- ---- members

-- a tick tells how many members it removed
abbrev pub AnswersMembers : (now : ℕ) → MembersAsk → MembersTold → Memberships → Memberships → Type 0
AnswersMembers now (Heartbeat request) (told_member.Heartbeat reply) old new = StepsMembers now old (Beats request reply) new
AnswersMembers now (Heartbeat request) (told_member.Ticked count) old new = ⊥
AnswersMembers now Tick (told_member.Heartbeat reply) old new = ⊥
AnswersMembers now Tick (told_member.Ticked count) old new =
    StepsMembers now old Ticks new × (count ≡ min (removed new.clock old.groups) (2 ^ 64 - 1))

-- a tick needs none
abbrev pub MembersTakeMemory : MembersAsk → Type 0
MembersTakeMemory (Heartbeat request) = ⊤
MembersTakeMemory Tick = ⊥

-- where no memory is found, nothing has changed
abbrev pub ActsOnMembers : (now : ℕ) → MembersAsk → Memberships → Result MembersTold NoMemory → Memberships → Type 0
ActsOnMembers now asked old (Ok told) new = AnswersMembers now asked told old new
ActsOnMembers now asked old (Err fault) new = MembersTakeMemory asked × (new ≡ old)

abbrev pub ActsMembers : MembersHost → MembersEvent → Result MembersTold NoMemory → MembersHost → Type 0
ActsMembers old event result new = ActsOnMembers event.now event.ask old.members result new.members

-- ---- foreign state

-- From each state that was carried, one is carried now to which the step of this call leads, and a reply can say the answer.
pub record AnswersForeign {D : Type 0} (seen : D → DiskView) (op : ForeignOp) (answer : ForeignAnswer) (old new : StoreParts D) : Type 0 where
  pub tellable : All IsTellable answer.runs
  pub steps : (s : ForeignShardState) → CarriesForeign seen old s → (after : ForeignShardState) × (fault : Option StoreFault)
      × CarriesForeign seen new after
      × StepsForeign (HasRisen seen old new) old.journal.end s op answer fault after

-- where no memory is found, nothing has changed
abbrev pub ActsOnForeign : {D : Type 0} → (D → DiskView) → ForeignOp → StoreParts D → Result ForeignAnswer NoMemory → StoreParts D → Type 0
ActsOnForeign seen op old (Ok answer) new = AnswersForeign seen op answer old new
ActsOnForeign seen op old (Err fault) new = new ≡ old

-- no power is lost and no fault armed on its disks, whose counts of faults don't fall
pub record ActsForeign {D : Type 0} (seen : D → DiskView) (old : ForeignHost D) (event : ForeignEvent) (result : Result ForeignAnswer NoMemory)
    (new : ForeignHost D) : Type 0 where
  pub acts : ActsOnForeign seen event.op old.foreign result new.foreign
  pub first : RunsOn seen old.foreign.journal.first.disk new.foreign.journal.first.disk
  pub second : RunsOn seen old.foreign.journal.second.disk new.foreign.journal.second.disk
  pub within : FoundOnForeign seen event.op old.foreign new.foreign
