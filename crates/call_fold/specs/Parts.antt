-- Which answers a part can have (this project's own): those of its kind, whose numbers a reply can say.
-- For example an answer with the run 7 to 9, acknowledged and counted once, can be told (row_tests,
-- `a read tells the batches that were written`).
use Rattle.std.specs.Prelude.{◌<◌, ◌^◌, pos, [], None, All}
use Rattle.msgs_group.specs.declared.heartbeat_reply.HeartbeatReply.{HeartbeatReply}
use Rattle.share_model.specs.ForeignRules.{code_alone}
use Rattle.share_model.specs.ErrorCodes.{NONE}
use Rattle.share_model.specs.declared.delete.DeleteAnswer.{DeleteAnswer}
use Rattle.share_model.specs.declared.delete.DeleteAnswer.TheVariants.{Done, OutOfRange, Store as Unraised}
use Rattle.share_model.specs.declared.fault.StoreFault.TheVariants.{Device}
use Rattle.share_model.specs.declared.foreign.ForeignAnswer.{ForeignAnswer}
use Rattle.share_model.specs.declared.hold.Grant.{Grant}
use Rattle.share_model.specs.declared.run.Run.{Run}
use Rattle.share_model.specs.declared.visit.VisitAnswer.{VisitAnswer}
use Rattle.share_model.specs.declared.visit.AckOutcome.TheVariants.{Store as NotAcknowledged}
use Rattle.share_model.specs.declared.visit.ThenOutcome.TheVariants.{Store as NotDone}
use Rattle.call_fold.specs.declared.part.Part.{Part}
use Rattle.call_fold.specs.declared.part.Part.TheVariants.{Foreign as PartForeign, Produce as PartProduce, Delete as PartDelete, Visit as PartVisit, Look as PartLook}
use Rattle.call_fold.specs.declared.part.Part.TheVariants.{Heartbeat as PartHeartbeat}
use Rattle.call_fold.specs.declared.part.Looked.{Looked}
use Rattle.call_fold.specs.declared.part.Looked.TheVariants.{Absent, There}
use Rattle.call_fold.specs.declared.part.Produced.{Produced}
use Rattle.call_fold.specs.declared.part.Produced.TheVariants.{Base, Batch, Store}
use Rattle.call_fold.specs.declared.part.PartAnswer.{PartAnswer}
use Rattle.call_fold.specs.declared.part.PartAnswer.TheVariants.{Foreign, Produce, Delete, Visit, Look, Heartbeat}

-- a run that a reply can tell: its offsets are i64, at most 2^63 - 1, and its count is an i16, at most 32767
pub record IsTellable (run : Run) : Type 0 where
  pub first : run.first < 2 ^ 63
  pub last : run.last < 2 ^ 63
  pub count : run.count < 2 ^ 15

-- the offset of a batch and the start of its log, which are i64 too
abbrev pub HasTellableBase : Produced → Type 0
HasTellableBase (Base placed) = (placed.base < 2 ^ 63) × (placed.start < 2 ^ 63)
HasTellableBase (Batch fault) = Unit {0}
HasTellableBase (Store fault) = Unit {0}

-- the start of a log, which is an i64 too; no reply tells where one ends
abbrev pub HasTellableStart : DeleteAnswer → Type 0
HasTellableStart (Done start) = start < 2 ^ 63
HasTellableStart (OutOfRange end) = Unit {0}
HasTellableStart (Unraised fault) = Unit {0}

-- what is stored of a group; its numbers are those of a message, but for its runs
abbrev pub IsTellableLook : Looked → Type 0
IsTellableLook Absent = Unit {0}
IsTellableLook (There state_epoch leader_epoch start runs) = All IsTellable runs

-- offsets that were acquired: i64, and their count an i16
pub record IsTellableGrant (grant : Grant) : Type 0 where
  pub first : grant.first < 2 ^ 63
  pub last : grant.last < 2 ^ 63
  pub count : grant.count < 2 ^ 15

-- what a visit gave
pub record IsTellableVisit (answer : VisitAnswer) : Type 0 where
  pub grants : All IsTellableGrant answer.grants

-- an answer of each kind, whose numbers a reply can say; the reply to a heartbeat is a message already
abbrev pub IsForeignAnswer : PartAnswer → Type 0
IsForeignAnswer (Foreign answer) = All IsTellable answer.runs
IsForeignAnswer (Produce produced) = ⊥
IsForeignAnswer (Delete answer) = ⊥
IsForeignAnswer (Visit answer) = ⊥
IsForeignAnswer (Look looked) = ⊥
IsForeignAnswer (Heartbeat reply) = ⊥

abbrev pub IsLogAnswer : PartAnswer → Type 0
IsLogAnswer (Foreign answer) = ⊥
IsLogAnswer (Produce produced) = HasTellableBase produced
IsLogAnswer (Delete answer) = ⊥
IsLogAnswer (Visit answer) = ⊥
IsLogAnswer (Look looked) = ⊥
IsLogAnswer (Heartbeat reply) = ⊥

abbrev pub IsDeleteAnswer : PartAnswer → Type 0
IsDeleteAnswer (Foreign answer) = ⊥
IsDeleteAnswer (Produce produced) = ⊥
IsDeleteAnswer (Delete answer) = HasTellableStart answer
IsDeleteAnswer (Visit answer) = ⊥
IsDeleteAnswer (Look looked) = ⊥
IsDeleteAnswer (Heartbeat reply) = ⊥

abbrev pub IsVisitAnswer : PartAnswer → Type 0
IsVisitAnswer (Foreign answer) = ⊥
IsVisitAnswer (Produce produced) = ⊥
IsVisitAnswer (Delete answer) = ⊥
IsVisitAnswer (Visit answer) = IsTellableVisit answer
IsVisitAnswer (Look looked) = ⊥
IsVisitAnswer (Heartbeat reply) = ⊥

abbrev pub IsLookAnswer : PartAnswer → Type 0
IsLookAnswer (Foreign answer) = ⊥
IsLookAnswer (Produce produced) = ⊥
IsLookAnswer (Delete answer) = ⊥
IsLookAnswer (Visit answer) = ⊥
IsLookAnswer (Look looked) = IsTellableLook looked
IsLookAnswer (Heartbeat reply) = ⊥

abbrev pub IsHeartbeatAnswer : PartAnswer → Type 0
IsHeartbeatAnswer (Foreign answer) = ⊥
IsHeartbeatAnswer (Produce produced) = ⊥
IsHeartbeatAnswer (Delete answer) = ⊥
IsHeartbeatAnswer (Visit answer) = ⊥
IsHeartbeatAnswer (Look looked) = ⊥
IsHeartbeatAnswer (Heartbeat reply) = Unit {0}

abbrev pub IsAnswerTo : Part → PartAnswer → Type 0
IsAnswerTo (PartForeign op) answer = IsForeignAnswer answer
IsAnswerTo (PartProduce shard batch) answer = IsLogAnswer answer
IsAnswerTo (PartDelete shard to) answer = IsDeleteAnswer answer
IsAnswerTo (PartVisit shard visit) answer = IsVisitAnswer answer
IsAnswerTo (PartLook shard group) answer = IsLookAnswer answer
IsAnswerTo (PartHeartbeat request) answer = IsHeartbeatAnswer answer

-- The answer of the foreign shard, of a log to a batch and to a delete, of a visit, of a look and of the members. An
-- answer of another kind never comes, and any value stands for it.
abbrev pub foreign_answer : PartAnswer → ForeignAnswer
foreign_answer (Foreign answer) = answer
foreign_answer (Produce produced) = code_alone NONE
foreign_answer (Delete answer) = code_alone NONE
foreign_answer (Visit answer) = code_alone NONE
foreign_answer (Look looked) = code_alone NONE
foreign_answer (Heartbeat reply) = code_alone NONE

abbrev pub log_answer : PartAnswer → Produced
log_answer (Foreign answer) = Store Device
log_answer (Produce produced) = produced
log_answer (Delete answer) = Store Device
log_answer (Visit answer) = Store Device
log_answer (Look looked) = Store Device
log_answer (Heartbeat reply) = Store Device

abbrev pub delete_answer : PartAnswer → DeleteAnswer
delete_answer (Foreign answer) = Unraised Device
delete_answer (Produce produced) = Unraised Device
delete_answer (Delete answer) = answer
delete_answer (Visit answer) = Unraised Device
delete_answer (Look looked) = Unraised Device
delete_answer (Heartbeat reply) = Unraised Device

abbrev pub no_visit : VisitAnswer
no_visit = record { ack = NotAcknowledged Device; then = NotDone Device; grants = []; batches = [] }

abbrev pub visit_answer : PartAnswer → VisitAnswer
visit_answer (Foreign answer) = no_visit
visit_answer (Produce produced) = no_visit
visit_answer (Delete answer) = no_visit
visit_answer (Visit answer) = answer
visit_answer (Look looked) = no_visit
visit_answer (Heartbeat reply) = no_visit

abbrev pub look_answer : PartAnswer → Looked
look_answer (Foreign answer) = Absent
look_answer (Produce produced) = Absent
look_answer (Delete answer) = Absent
look_answer (Visit answer) = Absent
look_answer (Look looked) = looked
look_answer (Heartbeat reply) = Absent

abbrev pub no_heartbeat : HeartbeatReply
no_heartbeat = record {
  throttle_time_ms = pos 0;
  error_code = NONE.0;
  error_message = None;
  member_id = None;
  member_epoch = pos 0;
  heartbeat_interval_ms = pos 0;
  assignment = None;
}

abbrev pub heartbeat_answer : PartAnswer → HeartbeatReply
heartbeat_answer (Foreign answer) = no_heartbeat
heartbeat_answer (Produce produced) = no_heartbeat
heartbeat_answer (Delete answer) = no_heartbeat
heartbeat_answer (Visit answer) = no_heartbeat
heartbeat_answer (Look looked) = no_heartbeat
heartbeat_answer (Heartbeat reply) = reply
