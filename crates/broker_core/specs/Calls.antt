-- What a call makes of the shards that a broker holds, and of their disks by name. This project's own.
-- For example a produce of `orders` 0 leads to the machine's step of that partition, and each other disk stays as it was.
use Rattle.std.specs.Prelude.{◌≡◌, ◌⊎◌, ◌<◌, ◌≤◌, ℕ, List, [], ◌∷◌, false, Some, None}
use Rattle.std.specs.List.{AllZip}
use Rattle.std.specs.declared.option.Option.{Option}
use Rattle.edge_io.specs.declared.fault.FaultMode.{FaultMode}
use Rattle.edge_io.specs.declared.name.DiskPlace.{DiskPlace}
use Rattle.edge_io.specs.declared.name.DiskPlace.TheVariants.{Log, LogB, StateA, StateB}
use Rattle.edge_io.specs.Armed.{ArmsAlone}
use Rattle.edge_io.specs.Causes.{Rose}
use Rattle.call_fold.specs.declared.part.Part.{Part}
use Rattle.call_fold.specs.declared.part.Part.TheVariants.{Foreign, Produce, Delete as PartDelete, Visit as PartVisit, Look, Heartbeat}
use Rattle.call_fold.specs.declared.part.PartAnswer.{PartAnswer}
use Rattle.call_fold.specs.declared.part.PartAnswer.TheVariants.{Foreign as AnswerForeign, Produce as AnswerProduce, Delete as AnswerDelete, Visit as AnswerVisit, Look as AnswerLook, Heartbeat as AnswerHeartbeat}
use Rattle.session_script.specs.declared.event.Outcome.{Outcome}
use Rattle.share_model.specs.declared.visit.ExpireAnswer.{ExpireAnswer}
use Rattle.share_model.specs.declared.visit.Then.{Then}
use Rattle.share_part.specs.Shards.{PartShardState, Carries}
use Rattle.broker_model.specs.Hosted.{Hosted, IsLogName, IsOneOf}
use Rattle.broker_model.specs.Shards.{Counts, Ends, PartCall, Shards, ShardCall, StepsShards, answered_by, calls, fault_of_expiry, fault_of_release}
use Rattle.broker_model.specs.Shards.ShardCall.{CallPart}
use Rattle.broker_model.specs.Shards.PartCall.{Expires}
use Rattle.broker_model.specs.Disks.{OnCalled}
use Rattle.broker_hosts.specs.declared.slot.PartState.TheVariants as part
use Rattle.broker_hosts.specs.declared.slot.PartSlot.{PartSlot}
use Rattle.broker_hosts.specs.Carried.{GoesOn, IsPartCarried, OpenPart}
use Rattle.broker_core.specs.PartCalls.{HaltsPart, LeadsPart, PartGoesOn}
use Rattle.broker_shards.specs.Hosts.{holding}
use Rattle.edge_io.specs.Views.{DiskView}
use Rattle.broker_hosts.specs.Hosts.{AreCarried, AreOpen, HostsParts, LeftDisks, LogsReach, StandStill, all_names, disks_in, ends_in, facts_in, hosted_slots}

-- ---- disks

-- where they end in the one and in the other
abbrev pub ends_over : {D : Type 0} → HostsParts D → HostsParts D → Ends
ends_over old new name = (ends_in old name, ends_in new name)

-- no log's journal ends before where it did; the live one of states may, behind a checkpoint
abbrev pub LogsLater : (old new : List ℕ → ℕ) → Type 0
LogsLater old new = (name : List ℕ) → IsLogName name → old name ≤ new name

-- the counts of faults of the disk of this name, in the one and in the other
abbrev pub counts_in : {D : Type 0} → (D → DiskView) → LeftDisks D → LeftDisks D → Counts
counts_in seen old new name =
    ((facts_in seen old name).faults, (facts_in seen new name).faults)

-- ---- calls

-- a shard does this part, and answers it so
abbrev pub Did : Counts → Ends → (now : ℕ) → Part → PartAnswer → Shards → Option ShardCall → Shards → Type 0
Did counts ends now part answer old call new = (did : ShardCall) × (call ≡ Some did) × (answered_by did ≡ Some (record { part = part; answer = answer }))
    × StepsShards counts ends now old did new

-- the partition with this number does this call
abbrev pub DidPart : Counts → Ends → (now shard : ℕ) → PartCall → Shards → Option ShardCall → Shards → Type 0
DidPart counts ends now shard did old call new = (hosted : Hosted) × (call ≡ Some (CallPart shard hosted did))
    × StepsShards counts ends now old (CallPart shard hosted did) new

-- From these shards, they stand for those now that this relation leads to, by a call or none.
pub record Leads {D : Type 0} (seen : D → DiskView) (old : HostsParts D) (shards : Shards)
    (new : HostsParts D) (Does : Shards → Option ShardCall → Shards → Type 0) : Type 0 where
  pub after : Shards
  pub call : Option ShardCall
  pub carried : AreCarried seen new after
  pub does : Does shards call after
  pub disks : (name : List ℕ) → IsOneOf (all_names (hosted_slots old.parts)) name → OnCalled (calls call name)
      (facts_in seen (disks_in old) name) (facts_in seen (disks_in new) name)
  pub ends : (name : List ℕ) → calls call name ≡ false → ends_in new name ≡ ends_in old name
  pub ends_later : LogsLater (ends_in old) (ends_in new)

-- The same from each state of the shards that they stood for, by the counts of faults of their disks and the ends of their journals.
abbrev pub LeadsBy : {D : Type 0} → (D → DiskView) → (old new : HostsParts D) → (Counts → Ends → Shards → Option ShardCall → Shards → Type 0) → Type 0
LeadsBy seen old new Does = (s : Shards) → AreCarried seen old s →
    Leads seen old s new (Does (counts_in seen (disks_in old) (disks_in new)) (ends_over old new))

-- No memory was found: nothing was done in the shards, or it was done whole. The disks stand for what that left, and
-- those of logs reach to where the journals end.
pub record Halts {D : Type 0} (seen : D → DiskView) (old : HostsParts D) (shards : Shards) (new : HostsParts D)
    (Does : Shards → Option ShardCall → Shards → Type 0) : Type 0 where
  pub after : Shards
  pub still : StandStill seen after (disks_in new)
  pub ends_later : LogsLater (ends_in old) (ends_in new)
  pub reach : LogsReach seen (disks_in new) (ends_in new)
  pub does : (after ≡ shards) ⊎ ((call : Option ShardCall) × Does shards call after)

-- the same from each state of the shards that they stood for
abbrev pub HaltsBy : {D : Type 0} → (D → DiskView) → (old new : HostsParts D) → (Counts → Ends → Shards → Option ShardCall → Shards → Type 0)
    → Type 0
HaltsBy seen old new Does = (s : Shards) → AreCarried seen old s →
    Halts seen old s new (Does (counts_in seen (disks_in old) (disks_in new)) (ends_over old new))

-- a visit is of a shard with a number below this
abbrev pub IsThere : ℕ → Part → Type 0
IsThere count (Foreign op) = Unit {0}
IsThere count (Produce shard batch) = Unit {0}
IsThere count (PartDelete shard to) = Unit {0}
IsThere count (PartVisit shard visit) = shard < count
IsThere count (Look shard group) = Unit {0}
IsThere count (Heartbeat request) = Unit {0}

-- the visit that a part asks: its shard, and what follows its acknowledgements
abbrev pub visit_of : Part → Option (ℕ × Then)
visit_of (Foreign op) = None
visit_of (Produce shard batch) = None
visit_of (PartDelete shard to) = None
visit_of (PartVisit shard visit) = Some (shard, visit.then)
visit_of (Look shard group) = None
visit_of (Heartbeat request) = None

-- the faults that are told of a visit by its answer: that of a release that couldn't be stored
abbrev pub faults_of_visit : Option (ℕ × Then) → PartAnswer → List Outcome
faults_of_visit None answer = []
faults_of_visit (Some visit) (AnswerForeign answer) = []
faults_of_visit (Some visit) (AnswerProduce produced) = []
faults_of_visit (Some visit) (AnswerDelete answer) = []
faults_of_visit (Some visit) (AnswerVisit answer) = fault_of_release visit.0 visit.1 answer.then
faults_of_visit (Some visit) (AnswerLook looked) = []
faults_of_visit (Some visit) (AnswerHeartbeat reply) = []

-- of a part, only where it is a visit
abbrev pub faults_in : Part → PartAnswer → List Outcome
faults_in part answer = faults_of_visit (visit_of part) answer

-- an expiry of a shard at this moment, by its answer; the outcomes are the fault, if it met one
abbrev pub ExpiresShard : Counts → Ends → (now shard : ℕ) → List Outcome → Shards → Option ShardCall → Shards → Type 0
ExpiresShard counts ends now shard outcomes old call new = (hosted : Hosted) × (answer : ExpireAnswer)
    × (call ≡ Some (CallPart shard hosted (Expires answer))) × StepsShards counts ends now old (CallPart shard hosted (Expires answer)) new
    × (outcomes ≡ fault_of_expiry shard answer)

-- ---- any disks

-- the partitions, and the topics to which members subscribe, stay
pub record StaysHosted {D : Type 0} (old new : HostsParts D) : Type 0 where
  pub hosted : hosted_slots new.parts ≡ hosted_slots old.parts
  pub topics : new.members.topics ≡ old.members.topics

abbrev pub GoesOnIf : {D : Type 0} → (D → DiskView) → Option D → Option D → Type 0
GoesOnIf seen (Some old) (Some new) = GoesOn seen old new
GoesOnIf seen (Some old) None = ⊥
GoesOnIf seen None new = Unit {0}

pub record DiskGoesOn {D : Type 0} (seen : D → DiskView) (old new : List ℕ × Option D) : Type 0 where
  pub name : new.0 ≡ old.0
  pub goes : GoesOnIf seen old.1 new.1

abbrev pub BothGoOn : {D : Type 0} → (D → DiskView) → Option (D × D) → Option (D × D) → Type 0
BothGoOn seen (Some old) (Some new) = GoesOn seen old.0 new.0 × GoesOn seen old.1 new.1
BothGoOn seen (Some old) None = ⊥
BothGoOn seen None new = Unit {0}

-- each disk goes on under its name: its count of faults doesn't fall, and it tells its content where it did
pub record GoOn {D : Type 0} (seen : D → DiskView) (old new : LeftDisks D) : Type 0 where
  pub parts : AllZip (DiskGoesOn seen) old.parts new.parts
  pub foreign : BothGoOn seen old.foreign new.foreign

-- What an event that loses no power leaves: each disk goes on, each shard can be called, and what is hosted stays.
pub record StaysOpen {D : Type 0} (seen : D → DiskView) (old new : HostsParts D) : Type 0 where
  pub disks : GoOn seen (disks_in old) (disks_in new)
  pub are_open : AreOpen new
  pub hosted : StaysHosted old new

abbrev pub RoseIf : {D : Type 0} → (D → DiskView) → Option D → Option D → Type 0
RoseIf seen (Some old) (Some new) = Rose (seen old).faults (seen new).faults
RoseIf seen (Some old) None = ⊥
RoseIf seen None new = ⊥

abbrev pub PartRose : {D : Type 0} → (D → DiskView) → List (List ℕ × Option D) → List (List ℕ × Option D) → Type 0
PartRose seen [] new = ⊥
PartRose seen (e ∷ old) [] = ⊥
PartRose seen (e ∷ old) (f ∷ new) = RoseIf seen e.1 f.1 ⊎ PartRose seen old new

abbrev pub BothRose : {D : Type 0} → (D → DiskView) → Option (D × D) → Option (D × D) → Type 0
BothRose seen (Some old) (Some new) = Rose (seen old.0).faults (seen new.0).faults ⊎ Rose (seen old.1).faults (seen new.1).faults
BothRose seen (Some old) None = ⊥
BothRose seen None new = ⊥

-- the count of one of them rose
abbrev pub OneRose : {D : Type 0} → (D → DiskView) → LeftDisks D → LeftDisks D → Type 0
OneRose seen old new = PartRose seen old.parts new.parts ⊎ BothRose seen old.foreign new.foreign

-- ---- one slot

-- what a call at this moment made of a slot
pub record LeadsSlot {D : Type 0} (seen : D → DiskView) (now : ℕ) (did : PartCall) (old new : PartSlot D) : Type 0 where
  pub was : OpenPart D
  pub is : OpenPart D
  pub old_is : old.state ≡ part.Open was
  pub new_is : new.state ≡ part.Open is
  pub topic : new.topic ≡ old.topic
  pub conf : new.conf ≡ old.conf
  pub goes : PartGoesOn seen was is
  pub leads : (s : PartShardState) → IsPartCarried seen old.conf was s
      → LeadsPart seen old.conf now did was s is

-- no memory was found in such a call
pub record HaltsSlot {D : Type 0} (seen : D → DiskView)
    (now : ℕ) (Whole : PartCall → Type 0) (old new : PartSlot D) : Type 0 where
  pub was : OpenPart D
  pub is : OpenPart D
  pub old_is : old.state ≡ part.Open was
  pub new_is : new.state ≡ part.Open is
  pub topic : new.topic ≡ old.topic
  pub conf : new.conf ≡ old.conf
  pub goes : PartGoesOn seen was is
  pub halts : (s : PartShardState) → IsPartCarried seen old.conf was s
      → HaltsPart seen old.conf now Whole was s is

-- one of a partition's three disks was armed, and the others stay
abbrev pub ArmsPlace : {D : Type 0} → (D → DiskView) → (passes : ℕ) → FaultMode → OpenPart D → OpenPart D → DiskPlace → Type 0
ArmsPlace seen passes mode was is Log =
    ArmsAlone seen passes mode was.log.journal.disk is.log.journal.disk × (is.states ≡ was.states)
ArmsPlace seen passes mode was is LogB = ⊥
ArmsPlace seen passes mode was is StateA =
    ArmsAlone seen passes mode was.states.journal.first.disk is.states.journal.first.disk
    × (is.states.journal.second ≡ was.states.journal.second) × (is.log ≡ was.log)
ArmsPlace seen passes mode was is StateB =
    ArmsAlone seen passes mode was.states.journal.second.disk is.states.journal.second.disk
    × (is.states.journal.first ≡ was.states.journal.first) × (is.log ≡ was.log)

-- a fault of a disk of a slot was armed, and nothing else has changed
pub record ArmsSlot {D : Type 0} (seen : D → DiskView) (place : DiskPlace) (passes : ℕ) (mode : FaultMode) (old new : PartSlot D) : Type 0 where
  pub was : OpenPart D
  pub is : OpenPart D
  pub old_is : old.state ≡ part.Open was
  pub new_is : new.state ≡ part.Open is
  pub topic : new.topic ≡ old.topic
  pub conf : new.conf ≡ old.conf
  pub arms_disk : ArmsPlace seen passes mode was is place
  pub ends : (is.log.journal.end ≡ was.log.journal.end) × (is.states.journal.end ≡ was.states.journal.end)
  pub part_conf : is.conf ≡ was.conf
  pub stays : (s : PartShardState) → Carries seen holding was s → Carries seen holding is s
