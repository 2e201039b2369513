-- The shards of a broker as one state, and the calls on them: one for each hosted partition, one of all group memberships, and one of
-- foreign state. Each shard's own crate has its states, calls and steps. This project's own.
-- For example a read of foreign state leaves all shards as they are, and a batch that is produced to `orders` 0 leaves all but that
-- partition.
use Rattle.std.specs.Prelude.{◌≡◌, ◌+◌, ◌&&◌, ◌||◌, ℕ, ℤ, List, [], ◌∷◌, Option, Some, None, Bool, true, false, map, Result, Ok, Err, if◌then◌else◌}
use Rattle.edge_io.specs.Causes.{Rose}
use Rattle.share_model.specs.ForeignRules.{share_state_at}
use Rattle.share_model.specs.ShareStates.{ShareState}
use Rattle.share_model.specs.declared.delete.DeleteAnswer.{DeleteAnswer}
use Rattle.share_model.specs.declared.delete.DeleteAnswer.TheVariants.{Done as Deleted, OutOfRange, Store as delete_store}
use Rattle.share_model.specs.declared.delete.Placed.{Placed}
use Rattle.share_model.specs.declared.fault.LogFault.{LogFault}
use Rattle.share_model.specs.declared.fault.LogFault.TheVariants.{Batch as BadBatch, Store as Unstored}
use Rattle.share_model.specs.declared.fault.StoreFault.{StoreFault}
use Rattle.share_model.specs.declared.fault.StoreFault.TheVariants.{Device, Full}
use Rattle.share_model.specs.declared.foreign.ForeignOp.{ForeignOp}
use Rattle.share_model.specs.declared.foreign.ForeignAnswer.{ForeignAnswer}
use Rattle.share_model.specs.declared.visit.AckOutcome.{AckOutcome}
use Rattle.share_model.specs.declared.visit.AckOutcome.TheVariants.{Done as acknowledged, Malformed, NotHeld, Store as ack_store}
use Rattle.share_model.specs.declared.visit.ExpireAnswer.{ExpireAnswer}
use Rattle.share_model.specs.declared.visit.ExpireAnswer.TheVariants.{Done as freed_all, Store as freed_some}
use Rattle.share_model.specs.declared.visit.ShardId.TheVariants.{Part as OfPart}
use Rattle.share_model.specs.declared.visit.Then.{Then}
use Rattle.share_model.specs.declared.visit.Then.TheVariants.{Nothing, Release, Fetch}
use Rattle.share_model.specs.declared.visit.ThenOutcome.{ThenOutcome}
use Rattle.share_model.specs.declared.visit.ThenOutcome.TheVariants.{Done as followed, Store as then_store}
use Rattle.share_model.specs.declared.visit.Visit.{Visit}
use Rattle.share_model.specs.declared.visit.VisitAnswer.{VisitAnswer}
use Rattle.msgs_group.specs.declared.heartbeat_request.HeartbeatRequest.{HeartbeatRequest}
use Rattle.msgs_group.specs.declared.heartbeat_reply.HeartbeatReply.{HeartbeatReply}
use Rattle.session_script.specs.declared.event.Outcome.{Outcome}
use Rattle.session_script.specs.declared.event.Outcome.TheVariants.{Fault}
use Rattle.call_fold.specs.declared.part.Part.{Part}
use Rattle.call_fold.specs.declared.part.Part.TheVariants.{Foreign, Produce, Visit as PartVisit, Look, Heartbeat, Delete}
use Rattle.call_fold.specs.declared.part.Produced.{Produced}
use Rattle.call_fold.specs.declared.part.Produced.TheVariants.{Base, Batch, Store}
use Rattle.call_fold.specs.declared.part.Looked.{Looked}
use Rattle.call_fold.specs.declared.part.Looked.TheVariants.{Absent, There}
use Rattle.call_fold.specs.declared.part.PartAnswer.{PartAnswer}
use Rattle.call_fold.specs.declared.part.PartAnswer.TheVariants.{Foreign as AnswerForeign, Produce as AnswerProduce, Visit as AnswerVisit, Look as AnswerLook}
use Rattle.call_fold.specs.declared.part.PartAnswer.TheVariants.{Heartbeat as AnswerHeartbeat, Delete as AnswerDelete}
use Rattle.foreign_coord.specs.Shards.{ForeignShardState, StepsForeign}
use Rattle.share_members.specs.Groups.{Memberships}
use Rattle.share_members.specs.Heartbeats.{heartbeat_step}
use Rattle.share_members.specs.Expiry.{expire_step}
use Rattle.share_part.specs.Deleting.{StepsDelete}
use Rattle.share_part.specs.Hosting.{key_of}
use Rattle.share_part.specs.Shards.{PartShardState, StepsProduce}
use Rattle.share_part.specs.Visits.{StepsVisit}
use Rattle.share_part.specs.Expiring.{StepsExpire}
use Rattle.broker_model.specs.Hosted.{Hosted, ChangesAt, StoreDisks, first_of, foreign_store, has_disk, log_of, log_store, same_store, state_a, state_store, sum_on}

-- ---- the shards

-- a hosted partition, and its shard
pub record HostedPart : Type 0 where
  pub hosted : Hosted
  pub shard : PartShardState

abbrev pub hosted_by : List HostedPart → List Hosted
hosted_by parts = map (λ (p : HostedPart). p.hosted) parts

-- the hosted partitions, in the order of their shards' numbers; the memberships of all groups; foreign state
pub record Shards : Type 0 where
  pub parts : List HostedPart
  pub members : Memberships
  pub foreign : ForeignShardState

-- ---- calls

-- What was called of a hosted partition, and what it answered. Of a visit besides whether a batch of its fetch couldn't be
-- read, so that a device fault was one of the log's disk.
pub data PartCall : Type 0 where
  Visits : (visit : Visit) (answer : VisitAnswer) (unread : Bool) → PartCall
  Produces : (batch : List ℕ) (produced : Produced) → PartCall
  Looks : (group : List ℕ) (looked : Looked) → PartCall
  Expires : (answer : ExpireAnswer) → PartCall
  Deletes : (to : ℤ) (answer : DeleteAnswer) → PartCall

-- what was called of the memberships
pub data MembersCall : Type 0 where
  Beats : (request : HeartbeatRequest) (reply : HeartbeatReply) → MembersCall
  Ticks : MembersCall

-- A call on a shard: what was called and what it answered. One on foreign state has the fault that its store met, if it met one; one on a
-- partition the shard's number, and the partition.
pub data ShardCall : Type 0 where
  CallForeign : (op : ForeignOp) (answer : ForeignAnswer) (fault : Option StoreFault) → ShardCall
  CallPart : (shard : ℕ) (hosted : Hosted) (did : PartCall) → ShardCall
  CallMembers : (did : MembersCall) → ShardCall

-- a part of a request, and its answer
pub record Answered : Type 0 where
  pub part : Part
  pub answer : PartAnswer

abbrev pub answered_by_part : ℕ → PartCall → Option Answered
answered_by_part shard (Visits visit answer unread) = Some (record { part = PartVisit shard visit; answer = AnswerVisit answer })
answered_by_part shard (Produces batch produced) = Some (record { part = Produce shard batch; answer = AnswerProduce produced })
answered_by_part shard (Looks group looked) = Some (record { part = Look shard group; answer = AnswerLook looked })
answered_by_part shard (Expires answer) = None
answered_by_part shard (Deletes to answer) = Some (record { part = Delete shard to; answer = AnswerDelete answer })

abbrev pub answered_by_members : MembersCall → Option Answered
answered_by_members (Beats request reply) = Some (record { part = Heartbeat request; answer = AnswerHeartbeat reply })
answered_by_members Ticks = None

-- the part that a call does, and the answer to that; an expiry and a tick of the members do none
abbrev pub answered_by : ShardCall → Option Answered
answered_by (CallForeign op answer fault) = Some (record { part = Foreign op; answer = AnswerForeign answer })
answered_by (CallPart shard hosted did) = answered_by_part shard did
answered_by (CallMembers did) = answered_by_members did

-- ---- which writes and readings of a call fail

-- how many writes or readings failed on a device
abbrev pub faults_met : Option StoreFault → ℕ
faults_met None = 0
faults_met (Some Device) = 1
faults_met (Some (Full end)) = 0

abbrev pub store_fault_of_ack : AckOutcome → Option StoreFault
store_fault_of_ack acknowledged = None
store_fault_of_ack (Malformed fault) = None
store_fault_of_ack (NotHeld offset) = None
store_fault_of_ack (ack_store fault) = Some fault

abbrev pub store_fault_of_then : ThenOutcome → Option StoreFault
store_fault_of_then followed = None
store_fault_of_then (then_store fault) = Some fault

abbrev pub store_fault_of_log : Produced → Option StoreFault
store_fault_of_log (Base placed) = None
store_fault_of_log (Batch fault) = None
store_fault_of_log (Store fault) = Some fault

abbrev pub store_fault_of_delete : DeleteAnswer → Option StoreFault
store_fault_of_delete (Deleted start) = None
store_fault_of_delete (OutOfRange end) = None
store_fault_of_delete (delete_store fault) = Some fault

abbrev pub store_fault_of_expiry : ExpireAnswer → Option StoreFault
store_fault_of_expiry (freed_all freed) = None
store_fault_of_expiry (freed_some freed group fault) = Some fault

-- Of a visit its acknowledgements may fail, and what follows them, unless that was the reading of a batch. An expiry ends at
-- the first write that fails.
abbrev pub state_faults_met : PartCall → ℕ
state_faults_met (Visits visit answer unread) = faults_met (store_fault_of_ack answer.ack)
    + (if unread then 0 else faults_met (store_fault_of_then answer.then))
state_faults_met (Produces batch produced) = 0
state_faults_met (Looks group looked) = 0
state_faults_met (Expires answer) = faults_met (store_fault_of_expiry answer)
state_faults_met (Deletes to answer) = 0

-- of a batch and of a delete the write may fail, and of a fetch the reading of a batch, which ends it
abbrev pub log_faults_met : PartCall → ℕ
log_faults_met (Visits visit answer unread) = if unread then faults_met (store_fault_of_then answer.then) else 0
log_faults_met (Produces batch produced) = faults_met (store_fault_of_log produced)
log_faults_met (Looks group looked) = 0
log_faults_met (Expires answer) = 0
log_faults_met (Deletes to answer) = faults_met (store_fault_of_delete answer)

-- ---- steps

-- of each disk, by its name, its count of faults at entry of a step and behind it
abbrev pub Counts : Type 0
Counts = List ℕ → ℕ × ℕ

-- of each disk, by its name, where the journal on it ends at entry of a step and behind it; of the two disks of states the first one
-- has the end of the journal that is live
abbrev pub Ends : Type 0
Ends = List ℕ → ℕ × ℕ

abbrev pub rose_at : Counts → List ℕ → Type 0
rose_at counts name = Rose (counts name).0 (counts name).1

-- of a store's disks in all, their count of faults at entry, and behind the step
abbrev pub faults_before : Counts → StoreDisks → ℕ
faults_before counts store = sum_on (λ name. (counts name).0) store

abbrev pub faults_behind : Counts → StoreDisks → ℕ
faults_behind counts store = sum_on (λ name. (counts name).1) store

abbrev pub rose_on : Counts → StoreDisks → Type 0
rose_on counts store = Rose (faults_before counts store) (faults_behind counts store)

-- an answer of a log as the result of its call
abbrev pub result_of : Produced → Result Placed LogFault
result_of (Base placed) = Ok placed
result_of (Batch fault) = Err (BadBatch fault)
result_of (Store fault) = Err (Unstored fault)

-- what is stored of a group, if it has a table
abbrev pub look_at : Option ShareState → Looked
look_at None = Absent
look_at (Some state) = There state.state_epoch state.leader_epoch state.start state.runs

-- A partition's shard takes its step at the moment `now`. `told` says whether the log's disk tells its content.
abbrev pub StepsPart : (told : Bool) → Counts → Ends → (now : ℕ) → Hosted → PartShardState → PartCall → PartShardState → Type 0
StepsPart told counts ends now h old (Visits visit answer unread) new =
    StepsVisit h.conf (record { told = told; rose = rose_at counts (log_of h); failed = unread })
    (faults_before counts (state_store h)) (faults_behind counts (state_store h)) (ends (first_of h)).0 (ends (first_of h)).1 old now visit answer new
StepsPart told counts ends now h old (Produces batch produced) new =
    StepsProduce (rose_at counts (log_of h)) (ends (log_of h)).0 old now batch (result_of produced) new
StepsPart told counts ends now h old (Looks group looked) new =
    (looked ≡ look_at (share_state_at old.states (key_of h.conf group))) × (new ≡ old)
StepsPart told counts ends now h old (Expires answer) new =
    StepsExpire h.conf (faults_before counts (state_store h)) (faults_behind counts (state_store h)) (ends (first_of h)).0 (ends (first_of h)).1 old now answer new
StepsPart told counts ends now h old (Deletes to answer) new =
    StepsDelete (rose_at counts (log_of h)) (ends (log_of h)).0 old now to answer new

-- This partition's shard does, and the log's disk tells its content. The answer tells each failed call of that disk:
-- where it tells none, the count stands. A call of a state disk may fail untold, in a checkpoint.
pub record StepsHosted (counts : Counts) (ends : Ends) (now : ℕ) (hosted : Hosted) (did : PartCall) (old new : HostedPart) : Type 0 where
  pub was : old.hosted ≡ hosted
  pub is : new.hosted ≡ hosted
  pub step : StepsPart true counts ends now hosted old.shard did new.shard
  pub quiet : log_faults_met did ≡ 0 → faults_behind counts (log_store hosted) ≡ faults_before counts (log_store hosted)

abbrev pub StepsMembers : ℕ → Memberships → MembersCall → Memberships → Type 0
StepsMembers now old (Beats request reply) new =
    (reply ≡ (heartbeat_step now request old).reply) × (new ≡ (heartbeat_step now request old).after)
StepsMembers now old Ticks new = new ≡ expire_step now old

-- The shard that is called takes its step, and each other one stays.
abbrev pub StepsShards : Counts → Ends → (now : ℕ) → Shards → ShardCall → Shards → Type 0
StepsShards counts ends now old (CallForeign op answer fault) new =
    StepsForeign (rose_on counts foreign_store) (ends state_a).0 old.foreign op answer fault new.foreign
    × (new.parts ≡ old.parts) × (new.members ≡ old.members)
StepsShards counts ends now old (CallPart shard hosted did) new =
    ChangesAt shard (StepsHosted counts ends now hosted did) old.parts new.parts
    × (new.members ≡ old.members) × (new.foreign ≡ old.foreign)
StepsShards counts ends now old (CallMembers did) new =
    StepsMembers now old.members did new.members × (new.parts ≡ old.parts) × (new.foreign ≡ old.foreign)

-- ---- what is told of faults

abbrev pub fault_of_release : ℕ → Then → ThenOutcome → List Outcome
fault_of_release shard Nothing outcome = []
fault_of_release shard (Fetch records bytes first) outcome = []
fault_of_release shard Release followed = []
fault_of_release shard Release (then_store fault) = Fault (OfPart shard) ∷ []

abbrev pub fault_of_expiry : ℕ → ExpireAnswer → List Outcome
fault_of_expiry shard (freed_all freed) = []
fault_of_expiry shard (freed_some freed group fault) = Fault (OfPart shard) ∷ []

abbrev pub faults_of_part : ℕ → PartCall → List Outcome
faults_of_part shard (Visits visit answer unread) = fault_of_release shard visit.then answer.then
faults_of_part shard (Produces batch produced) = []
faults_of_part shard (Looks group looked) = []
faults_of_part shard (Expires answer) = fault_of_expiry shard answer
faults_of_part shard (Deletes to answer) = []

-- an expiry, or a release in a visit, that couldn't be stored is an outcome; a fault of anything else is told in a reply alone
abbrev pub faults_told : ShardCall → List Outcome
faults_told (CallForeign op answer fault) = []
faults_told (CallPart shard hosted did) = faults_of_part shard did
faults_told (CallMembers did) = []

-- ---- which disks are called, and how many writes and readings fail on each

-- a fetch reads batches
abbrev pub reads_log : Then → Bool
reads_log Nothing = false
reads_log Release = false
reads_log (Fetch records bytes first) = true

-- a partition's log is on its own disk; its tables are written on both disks of its states
abbrev pub part_calls : Hosted → PartCall → List ℕ → Bool
part_calls h (Visits visit answer unread) name = (reads_log visit.then && has_disk (log_store h) name) || has_disk (state_store h) name
part_calls h (Produces batch produced) name = has_disk (log_store h) name
part_calls h (Looks group looked) name = false
part_calls h (Expires answer) name = has_disk (state_store h) name
part_calls h (Deletes to answer) name = has_disk (log_store h) name

-- the shard of this disk was called, and may have used it
abbrev pub calls : Option ShardCall → List ℕ → Bool
calls None name = false
calls (Some (CallForeign op answer fault)) name = has_disk foreign_store name
calls (Some (CallPart shard hosted did)) name = part_calls hosted did name
calls (Some (CallMembers did)) name = false

-- on the disks of this store
abbrev pub part_faults_met : Hosted → PartCall → StoreDisks → ℕ
part_faults_met h did store = if same_store store (state_store h) then state_faults_met did
    else (if same_store store (log_store h) then log_faults_met did else 0)

-- how many writes and readings of this call failed on the disks of this store
abbrev pub failures_in : StoreDisks → Option ShardCall → ℕ
failures_in store None = 0
failures_in store (Some (CallForeign op answer fault)) = if same_store store foreign_store then faults_met fault else 0
failures_in store (Some (CallPart shard hosted did)) = part_faults_met hosted did store
failures_in store (Some (CallMembers did)) = 0
