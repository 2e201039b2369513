-- What a run keeps: each batch that was ever answered with a base, each delete that was answered with the log's new start, and each record
-- whose acknowledgement was answered as done; and that a log's start moves by deletes alone (this project's own).
-- For example a batch that is answered with base 3 stands in its log, at offset 3, at each later time, also behind a power loss. A record of
-- it that is accepted at its first delivery is stored as acknowledged with count 1 from then on, or lies below the start; and one that is
-- released at its fifth, where that is the limit, as archived with count 5. A delete of all below 2 that is answered with 2 has the log start
-- at 2 or behind from then on. Where a log that started at 0 with nothing pending starts at 2, a delete of all below 2 was answered with 2, or
-- its write failed on the device, and power was lost behind it.
use Rattle.std.specs.Prelude.{◌≡◌, ◌⊎◌, ◌<◌, ◌≤◌, ℕ, ℤ, List, ◌∷◌, ◌++◌, Option, Some, None, Bool, true, Contains}
use Rattle.std.specs.List.{AllByRecursion, AllZip}
use Rattle.rec_batch.specs.Placing.{placed}
use Rattle.share_model.specs.ForeignRules.{size_of}
use Rattle.share_model.specs.Held.{hold_at}
use Rattle.share_model.specs.Logs.{Batch}
use Rattle.share_model.specs.Runs.{row_at}
use Rattle.share_model.specs.ShareStates.{ShareState}
use Rattle.share_model.specs.declared.ack.AckKind.{AckKind}
use Rattle.share_model.specs.declared.delete.DeleteAnswer.{DeleteAnswer}
use Rattle.share_model.specs.declared.delete.DeleteAnswer.TheVariants.{Done as Deleted, Store as delete_store}
use Rattle.share_model.specs.declared.delete.Placed.{Placed}
use Rattle.share_model.specs.declared.fault.StoreFault.TheVariants.{Device}
use Rattle.share_model.specs.declared.hold.Hold.{Hold}
use Rattle.share_model.specs.declared.row.Row.{Row}
use Rattle.share_model.specs.declared.visit.AckOutcome.TheVariants.{Done}
use Rattle.share_model.specs.declared.visit.Visit.{Visit}
use Rattle.share_model.specs.declared.visit.VisitAnswer.{VisitAnswer}
use Rattle.share_part.specs.Deleting.{IsToDelete}
use Rattle.share_part.specs.Named.{named_from}
use Rattle.share_part.specs.Settling.{is_closed_state, settled}
use Rattle.part_log.specs.Batches.{batch_in}
use Rattle.part_log.specs.Shards.{log_at}
use Rattle.part_log.specs.Starts.LogWrite.{Marks}
use Rattle.session_script.specs.declared.event.Event.TheVariants.{Power}
use Rattle.call_fold.specs.declared.part.Produced.TheVariants.{Base}
use Rattle.broker_model.specs.Hosted.{Hosted, HoldsAt}
use Rattle.broker_model.specs.Shards.{HostedPart}
use Rattle.broker_model.specs.Shards.ShardCall.{CallPart}
use Rattle.broker_model.specs.Shards.PartCall.{Produces, Visits, Deletes}
use Rattle.broker_model.specs.Locks.{Record}
use Rattle.broker_model.specs.Starts.{IsWell, table_in}
use Rattle.broker_model.specs.States.{State}
use Rattle.broker_model.specs.Runs.{Step, events_of}

-- a log has the batches that it had, in their order, and may have more behind them; it starts where it did or behind
pub record GoesOnAs (old new : HostedPart) : Type 0 where
  pub more : List Batch
  pub hosted : new.hosted ≡ old.hosted
  pub batches : new.shard.log.batches ≡ old.shard.log.batches ++ more
  pub start : old.shard.log.start ≤ new.shard.log.start

-- the batch is one of the log's
abbrev pub IsIn : Batch → List Batch → Type 0
IsIn b log = (before after : List Batch) × (log ≡ before ++ (b ∷ after))

-- No log loses a batch, and each batch that was answered with a base stands in its log in the end, at that base and with leader epoch 0.
pub record KeepsBatches (first : State) (steps : List Step) (last : State) : Type 0 where
  pub logs : AllZip GoesOnAs first.machine.shards.parts last.machine.shards.parts
  pub answered : (before after : List Step) (s : Step) → steps ≡ before ++ (s ∷ after) → (shard : ℕ) (at : Placed) (hosted : Hosted) (batch : List ℕ)
      → s.call ≡ Some (CallPart shard hosted (Produces batch (Base at)))
      → HoldsAt shard (λ (p : HostedPart). IsIn (batch_in (placed at.base batch)) p.shard.log.batches) last.machine.shards.parts

-- ---- deletes

-- power is lost in one of these steps
abbrev pub LosesPower : List Step → Type 0
LosesPower steps = (choice : ℕ) × Contains (events_of steps) (Power choice)

-- the log starts there
abbrev pub StartsAt : ℕ → HostedPart → Type 0
StartsAt start p = p.shard.log.start ≡ start

-- it does behind the write that is pending
abbrev pub IsMarkedAt : ℕ → HostedPart → Type 0
IsMarkedAt start p = p.shard.log.pending ≡ Some (Marks start)

-- The step is a delete that asks for this start of the shard's log, which is above its start and at its end at most, and is answered so.
pub record DeletesTo (shard start : ℕ) (answer : DeleteAnswer) (s : Step) : Type 0 where
  pub hosted : Hosted
  pub to : ℤ
  pub call : s.call ≡ Some (CallPart shard hosted (Deletes to answer))
  pub target : HoldsAt shard (λ (p : HostedPart). IsToDelete (log_at p.shard.log) to start) s.before.machine.shards.parts

-- A delete of these steps moves the shard's log there: it is answered with that, or its write fails on the device, and power is lost behind it.
pub record AreMovedTo (shard start : ℕ) (steps : List Step) : Type 0 where
  pub before : List Step
  pub step : Step
  pub after : List Step
  pub split : steps ≡ before ++ (step ∷ after)
  pub deletes : DeletesTo shard start (Deleted start) step ⊎ (DeletesTo shard start (delete_store Device) step × LosesPower after)

-- Where a delete was answered with a start, the log starts there or behind in the end. And where a log starts in the end it did at first, or a
-- delete moved it there, or a mark that was pending at first, where power was lost.
pub record KeepsDeletes (first : State) (steps : List Step) (last : State) : Type 0 where
  pub deleted : (before after : List Step) (s : Step) → steps ≡ before ++ (s ∷ after) → (shard start : ℕ) (hosted : Hosted) (to : ℤ)
      → s.call ≡ Some (CallPart shard hosted (Deletes to (Deleted start)))
      → HoldsAt shard (λ (p : HostedPart). start ≤ p.shard.log.start) last.machine.shards.parts
  pub moved : (shard start : ℕ) → HoldsAt shard (StartsAt start) last.machine.shards.parts
      → HoldsAt shard (StartsAt start) first.machine.shards.parts
      ⊎ ((HoldsAt shard (IsMarkedAt start) first.machine.shards.parts × LosesPower steps) ⊎ AreMovedTo shard start steps)

-- ---- acknowledgements

-- an accept, a reject, a gap or a release of the record was answered as done
pub record IsActedOnIn (r : Record) (s : Step) : Type 0 where
  pub hosted : Hosted
  pub visit : Visit
  pub answer : VisitAnswer
  pub unread : Bool
  pub kind : AckKind
  pub call : s.call ≡ Some (CallPart r.shard hosted (Visits visit answer unread))
  pub group : visit.group ≡ r.group
  pub named : HoldsAt r.shard (λ (p : HostedPart). named_from p.shard.log.start visit.acks r.offset ≡ Some kind) s.before.machine.shards.parts
  pub done : answer.ack ≡ Done

-- the record has this row, or lies below the start
abbrev pub HasKept : ℕ → Row → Option ShareState → Type 0
HasKept offset row None = ⊥
HasKept offset row (Some state) = (offset < size_of state.start) ⊎ (row_at state.runs offset ≡ Some row)

-- It was held then; and where the act closes it, by an accept, a reject or a gap, or by a release at the limit, it has in the end the row that
-- the act gives it, with the count of that delivery, or lies below the start.
pub record IsKept (r : Record) (s : Step) (c : IsActedOnIn r s) (last : State) : Type 0 where
  pub hold : Hold
  pub held : HoldsAt r.shard (λ (p : HostedPart). hold_at (p.shard.held r.group) r.offset ≡ Some hold) s.before.machine.shards.parts
  pub row : is_closed_state (settled c.hosted.conf.limit c.kind hold.count).state ≡ true
      → HoldsAt r.shard (λ (p : HostedPart). HasKept r.offset (settled c.hosted.conf.limit c.kind hold.count) (table_in p r.group)) last.machine.shards.parts

-- Where each partition was well at first, as behind an opening, no acknowledgement that was answered as done is lost, whatever fails and however
-- often power is lost.
abbrev pub KeepsAcknowledgements : State → List Step → State → Type 0
KeepsAcknowledgements first steps last = AllByRecursion IsWell first.machine.shards.parts → (before after : List Step) (s : Step) →
    steps ≡ before ++ (s ∷ after) → (r : Record) (c : IsActedOnIn r s) → IsKept r s c last
