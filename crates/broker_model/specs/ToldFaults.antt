-- How a write that couldn't be stored is told (code 56 is Kafka's KAFKA_STORAGE_ERROR; that a release and an expiry are told by an
-- outcome is this project's own). A release or an expiry that couldn't be stored is an outcome of its step. Anything else has code 56
-- in the entry that its answer makes in the reply to the request in hand.
-- For example `a` accepts 0 to 2, and the write fails: the entry of the partition has 56 as its AcknowledgeErrorCode. Where the write of
-- an expiry fails, the line `fault orders/0` comes in that step.
use Rattle.std.specs.Prelude.{◌≡◌, ℕ, ℤ, List, [], ◌∷◌, Some, IfSome, Bool}
use Rattle.share_model.specs.ErrorCodes.{KAFKA_STORAGE_ERROR}
use Rattle.share_model.specs.declared.delete.DeleteAnswer.TheVariants.{Store as delete_store}
use Rattle.share_model.specs.declared.fault.StoreFault.{StoreFault}
use Rattle.share_model.specs.declared.foreign.ForeignAnswer.{ForeignAnswer}
use Rattle.share_model.specs.declared.foreign.ForeignOp.{ForeignOp}
use Rattle.share_model.specs.declared.visit.ShardId.TheVariants.{Part as OfPart}
use Rattle.share_model.specs.declared.visit.AckOutcome.TheVariants.{Store as ack_store}
use Rattle.share_model.specs.declared.visit.ExpireAnswer.TheVariants.{Store as expire_store}
use Rattle.share_model.specs.declared.visit.Then.TheVariants.{Release, Fetch as ThenFetch}
use Rattle.share_model.specs.declared.visit.ThenOutcome.TheVariants.{Store as then_store}
use Rattle.share_model.specs.declared.visit.Visit.{Visit}
use Rattle.share_model.specs.declared.visit.VisitAnswer.{VisitAnswer}
use Rattle.session_script.specs.declared.event.Event.TheVariants.{Step as StepOf}
use Rattle.session_script.specs.declared.event.Outcome.{Outcome}
use Rattle.session_script.specs.declared.event.Outcome.TheVariants.{Fault}
use Rattle.topic_conf.specs.Configs.{ConfigParts}
use Rattle.call_fold.specs.declared.part.PartAnswer.{PartAnswer}
use Rattle.call_fold.specs.declared.part.PartAnswer.TheVariants.{Foreign as AnswerForeign, Produce as AnswerProduce, Visit as AnswerVisit, Delete as AnswerDelete}
use Rattle.call_fold.specs.declared.part.Produced.TheVariants.{Store as log_store}
use Rattle.conn_core.specs.declared.hand.Hand.{Hand}
use Rattle.conn_core.specs.declared.hand.Hand.TheVariants.{Produce, DeleteRecords, Fetch, Acknowledge, Heartbeat, Initialize, Read, Write, Delete}
use Rattle.conn_core.specs.declared.work.Work.TheVariants.{Busy}
use Rattle.conn_core.specs.Conns.{ConnParts}
use Rattle.conn_core.specs.Turning.{turn}
use Rattle.log_calls.specs.Delete.{delete_acts}
use Rattle.log_calls.specs.Produce.{produce_acts}
use Rattle.share_calls.specs.Fetch.{fetch_acts}
use Rattle.share_calls.specs.Acknowledge.{ack_acts}
use Rattle.state_calls.specs.Delete.{delete_means}
use Rattle.state_calls.specs.Initialize.{initialize_means}
use Rattle.state_calls.specs.Read.{read_means}
use Rattle.state_calls.specs.Write.{write_means}
use Rattle.state_calls.specs.StateCalls.{state_acts}
use Rattle.msgs_state.specs.ReadReply.{read_partition_result}
use Rattle.msgs_state.specs.StateReply.{partition_result}
use Rattle.broker_model.specs.Hosted.{Hosted}
use Rattle.broker_model.specs.Machine.{conn_at}
use Rattle.broker_model.specs.Shards.ShardCall.{CallForeign, CallPart}
use Rattle.broker_model.specs.Shards.PartCall.{Deletes, Expires, Produces, Visits}
use Rattle.broker_model.specs.Runs.{Step}

abbrev pub IsStorageError : ℤ → Type 0
IsStorageError code = code ≡ KAFKA_STORAGE_ERROR.0

-- ---- the entry that an answer makes in the reply to this request

-- its code of acknowledgements is 56; a visit that the reply doesn't tell has no entry
abbrev pub TellsAcks : Hand → PartAnswer → Type 0
TellsAcks (Produce a) answer = ⊥
TellsAcks (DeleteRecords a) answer = ⊥
TellsAcks (Fetch a) answer = IfSome (fetch_acts.row a.call a.question answer) (λ row. IsStorageError row.partition.acknowledge_error_code)
TellsAcks (Acknowledge a) answer = IfSome (ack_acts.row a.call a.question answer) (λ row. IsStorageError row.error_code)
TellsAcks (Heartbeat a) answer = ⊥
TellsAcks (Initialize a) answer = ⊥
TellsAcks (Read a) answer = ⊥
TellsAcks (Write a) answer = ⊥
TellsAcks (Delete a) answer = ⊥

-- its code of the fetch is 56
abbrev pub TellsFetch : Hand → PartAnswer → Type 0
TellsFetch (Produce a) answer = ⊥
TellsFetch (DeleteRecords a) answer = ⊥
TellsFetch (Fetch a) answer = IfSome (fetch_acts.row a.call a.question answer) (λ row. IsStorageError row.partition.error_code)
TellsFetch (Acknowledge a) answer = ⊥
TellsFetch (Heartbeat a) answer = ⊥
TellsFetch (Initialize a) answer = ⊥
TellsFetch (Read a) answer = ⊥
TellsFetch (Write a) answer = ⊥
TellsFetch (Delete a) answer = ⊥

-- its one code is 56
abbrev pub TellsEntry : Hand → PartAnswer → Type 0
TellsEntry (Produce a) answer = IsStorageError (produce_acts.row a.call a.question answer).error_code
TellsEntry (DeleteRecords a) answer = IsStorageError (delete_acts.row a.call a.question answer).error_code
TellsEntry (Fetch a) answer = ⊥
TellsEntry (Acknowledge a) answer = ⊥
TellsEntry (Heartbeat a) answer = ⊥
TellsEntry (Initialize a) answer = IsStorageError ((state_acts initialize_means partition_result).row a.call a.question answer).error_code
TellsEntry (Read a) answer = IsStorageError ((state_acts read_means read_partition_result).row a.call a.question answer).error_code
TellsEntry (Write a) answer = IsStorageError ((state_acts write_means partition_result).row a.call a.question answer).error_code
TellsEntry (Delete a) answer = IsStorageError ((state_acts delete_means partition_result).row a.call a.question answer).error_code

-- ---- in a step

-- in this step the connection has this request in hand
pub record IsInHand (conf : ConfigParts) (s : Step) (hand : Hand) : Type 0 where
  pub id : ℕ
  pub now : ℕ
  pub tags : Bool
  pub correlation : ℤ
  pub conn : ConnParts
  pub event : s.event ≡ StepOf id now
  pub there : conn_at id s.before.machine.connections ≡ Some conn
  pub busy : (turn conf conn).conn.work ≡ Busy tags correlation hand

pub record TellsStoreFaults (conf : ConfigParts) (s : Step) : Type 0 where
  pub expiry : (shard : ℕ) (hosted : Hosted) (freed : ℕ) (group : List ℕ) (fault : StoreFault) →
      s.call ≡ Some (CallPart shard hosted (Expires (expire_store freed group fault))) → s.outcomes ≡ Fault (OfPart shard) ∷ []
  pub release : (shard : ℕ) (hosted : Hosted) (visit : Visit) (answer : VisitAnswer) (unread : Bool) (fault : StoreFault) →
      s.call ≡ Some (CallPart shard hosted (Visits visit answer unread)) → visit.«then» ≡ Release → answer.«then» ≡ then_store fault →
      (replies : List Outcome) × (s.outcomes ≡ Fault (OfPart shard) ∷ replies)
  pub acks : (hand : Hand) (shard : ℕ) (hosted : Hosted) (visit : Visit) (answer : VisitAnswer) (unread : Bool) (fault : StoreFault) → IsInHand conf s hand →
      s.call ≡ Some (CallPart shard hosted (Visits visit answer unread)) → answer.ack ≡ ack_store fault → TellsAcks hand (AnswerVisit answer)
  pub fetch : (hand : Hand) (shard : ℕ) (hosted : Hosted) (visit : Visit) (answer : VisitAnswer) (unread : Bool) (fault : StoreFault)
      (records bytes : ℕ) (first : _) → IsInHand conf s hand → s.call ≡ Some (CallPart shard hosted (Visits visit answer unread)) →
      visit.«then» ≡ ThenFetch records bytes first → answer.«then» ≡ then_store fault → TellsFetch hand (AnswerVisit answer)
  pub produce : (hand : Hand) (shard : ℕ) (hosted : Hosted) (batch : List ℕ) (fault : StoreFault) → IsInHand conf s hand →
      s.call ≡ Some (CallPart shard hosted (Produces batch (log_store fault))) → TellsEntry hand (AnswerProduce (log_store fault))
  pub delete : (hand : Hand) (shard : ℕ) (hosted : Hosted) (to : ℤ) (fault : StoreFault) → IsInHand conf s hand →
      s.call ≡ Some (CallPart shard hosted (Deletes to (delete_store fault))) → TellsEntry hand (AnswerDelete (delete_store fault))
  pub foreign : (hand : Hand) (op : ForeignOp) (answer : ForeignAnswer) (fault : StoreFault) → IsInHand conf s hand →
      s.call ≡ Some (CallForeign op answer (Some fault)) → TellsEntry hand (AnswerForeign answer)
