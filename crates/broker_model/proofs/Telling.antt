-- How a write that couldn't be stored is told.
use Rattle.std.proofs.Common.{◌≡◌, ◌⊎◌, inl, inr, ⊎_elim, refl, sym, ap, ◌∙◌, subst, ℕ, ℤ, List, [], ◌∷◌, ◌++◌, Bool, Some, None, Option, Ok, IfSome}
use Rattle.std.specs.List.{AllByRecursion}
use Rattle.std.specs.Option.{option_map}
use Rattle.share_model.specs.ErrorCodes.{KAFKA_STORAGE_ERROR}
use Rattle.share_model.specs.declared.fault.Code.{Code}
use Rattle.share_model.specs.declared.fault.StoreFault.{StoreFault}
use Rattle.share_model.specs.declared.fault.StoreFault.TheVariants.{Device, Full}
use Rattle.share_model.specs.declared.foreign.ForeignAnswer.{ForeignAnswer}
use Rattle.share_model.specs.declared.foreign.ForeignOp.{ForeignOp}
use Rattle.share_model.specs.declared.visit.ShardId.TheVariants.{Part as OfPart}
use Rattle.share_model.specs.declared.visit.AckOutcome.TheVariants.{Store as ack_store}
use Rattle.share_model.specs.declared.visit.ExpireAnswer.TheVariants.{Store as expire_store}
use Rattle.share_model.specs.declared.visit.Then.{Then}
use Rattle.share_model.specs.declared.visit.Then.TheVariants.{Release, Fetch as ThenFetch}
use Rattle.share_model.specs.declared.visit.ThenOutcome.{ThenOutcome}
use Rattle.share_model.specs.declared.visit.ThenOutcome.TheVariants.{Store as then_store}
use Rattle.share_model.specs.declared.visit.Visit.{Visit}
use Rattle.share_model.specs.declared.visit.VisitAnswer.{VisitAnswer}
use Rattle.session_script.specs.declared.event.Event.{Event}
use Rattle.session_script.specs.declared.event.Event.TheVariants.{Open, Bytes, Close, Step as StepOf, Expire, Tick, Arm, Power}
use Rattle.session_script.specs.declared.event.Outcome.{Outcome}
use Rattle.session_script.specs.declared.event.Outcome.TheVariants.{Fault}
use Rattle.topic_conf.specs.Configs.{ConfigParts}
use Rattle.topic_conf.specs.Topics.{shard_named}
use Rattle.share_session.specs.declared.step.Purpose.{Purpose}
use Rattle.share_session.specs.declared.step.Purpose.TheVariants as purpose
use Rattle.call_fold.specs.declared.part.Part.{Part}
use Rattle.call_fold.specs.declared.part.Part.TheVariants.{Foreign as PartForeign, Produce as PartProduce, Delete as PartDelete, Visit as PartVisit}
use Rattle.call_fold.specs.declared.part.PartAnswer.{PartAnswer}
use Rattle.call_fold.specs.declared.part.PartAnswer.TheVariants.{Foreign as AnswerForeign, Produce as AnswerProduce, Delete as AnswerDelete, Visit as AnswerVisit}
use Rattle.call_fold.specs.declared.part.Produced.TheVariants.{Store as log_store}
use Rattle.share_model.specs.declared.delete.DeleteAnswer.TheVariants.{Store as delete_store}
use Rattle.conn_core.specs.declared.hand.Hand.{Hand}
use Rattle.conn_core.specs.declared.hand.Hand.TheVariants.{Produce, DeleteRecords, Fetch, Acknowledge, Heartbeat, Initialize, Read, Write, Delete}
use Rattle.conn_core.specs.declared.next.Next.{Next}
use Rattle.conn_core.specs.declared.next.Next.TheVariants.{Idle, Ask, Ready, Closed, Gone}
use Rattle.conn_core.specs.declared.work.Work.{Work}
use Rattle.conn_core.specs.declared.work.Work.TheVariants.{Busy}
use Rattle.conn_core.specs.Conns.{ConnParts}
use Rattle.conn_core.specs.Hands.{hand_part}
use Rattle.conn_core.specs.Turning.{Awaits, awaited_part_at, conn_after_answer, turn}
use Rattle.conn_core.proofs.Waiting.{awaits}
use Rattle.share_calls.specs.Codes.{ack_code, then_code}
use Rattle.share_calls.specs.Fetch.{row_for, then_of}
use Rattle.share_calls.specs.declared.fetch.FetchHand.{FetchHand}
use Rattle.share_calls.specs.Acknowledge.{ack_row, ack_then}
use Rattle.share_calls.specs.Visits.{visit_of}
use Rattle.share_calls.specs.declared.partition.PartitionId.{PartitionId}
use Rattle.state_calls.specs.Delete.{delete_means}
use Rattle.state_calls.specs.Initialize.{initialize_means}
use Rattle.state_calls.specs.Read.{read_means}
use Rattle.state_calls.specs.Write.{write_means}
use Rattle.state_calls.specs.States.{StateMeans, question_answer}
use Rattle.state_calls.specs.StateCalls.{question_part}
use Rattle.state_calls.specs.declared.plan.Question.{Question}
use Rattle.state_calls.specs.declared.plan.Question.TheVariants as asked
use Rattle.foreign_coord.specs.Shards.{StepsForeign}
use Rattle.broker_model.specs.Hosted.{Hosted}
use Rattle.broker_model.specs.Machine.{Machine, conn_at}
use Rattle.broker_model.specs.Shards.{Answered, Counts, Ends, ShardCall, Shards, StepsShards, answered_by, faults_told, fault_of_release}
use Rattle.broker_model.specs.Shards.ShardCall.{CallForeign, CallPart}
use Rattle.broker_model.specs.Shards.PartCall.{Deletes, Expires, Produces, Visits}
use Rattle.broker_model.specs.Steps.{Does, DoesPart, replies_to, ExpiresAt, IsRestart, Serves, StepsTo, TakesTurn}
use Rattle.broker_model.specs.States.{State, counts_of, ends_of}
use Rattle.broker_model.specs.Runs.{Step, IsRun}
use Rattle.broker_model.specs.ToldFaults.{IsInHand, IsStorageError, TellsAcks, TellsEntry, TellsFetch, TellsStoreFaults}
use Rattle.broker_model.proofs.Acts.{Acts, power_or_not, step_acts}
use Rattle.broker_model.proofs.Goes.{IsStepOf}
use Rattle.broker_model.proofs.Lists.{none_not, some_same}

-- ---- what the call of a step tells

-- it is a part of a request, and replies may come behind its faults
pub record DoesFor (did : ShardCall) (outcomes : List Outcome) : Type 0 where
  pub part : Part
  pub answer : PartAnswer
  pub replies : List Outcome
  pub does : answered_by did ≡ Some (record { part = part; answer = answer })
  pub tells : outcomes ≡ faults_told did ++ replies

-- or its shard was called by itself
abbrev pub Told : ShardCall → List Outcome → Type 0
Told did outcomes = (outcomes ≡ faults_told did) ⊎ DoesFor did outcomes

module _ (counts : Counts) (ends : Ends) (conf : ConfigParts) (old new : Machine) (call : Option ShardCall) (outcomes : List Outcome)
    (did : ShardCall) (is : call ≡ Some did) where
  not_called : {A : Type 0} → call ≡ None → A
  not_called none = absurd (none_not did (sym none ∙ is))

  by_itself : (other : ShardCall) → call ≡ Some other → outcomes ≡ faults_told other → Told did outcomes
  by_itself other at tells = inl (tells ∙ ap faults_told (some_same other did (sym at ∙ is)))

  for_part : (id now : ℕ) (part : Part) (conn after : ConnParts) (mid : Shards) → DoesPart counts ends id now part conn old.shards mid call outcomes after
      → Told did outcomes
  for_part id now part conn after mid d =
      let same : d.did ≡ did = some_same d.did did (sym d.is ∙ is) in
      inr (record {
        part = part;
        answer = d.answer;
        replies = replies_to id (conn_after_answer d.answer conn);
        does = ap answered_by (sym same) ∙ d.does;
        tells = d.tells ∙ ap (λ (k : ShardCall). faults_told k ++ replies_to id (conn_after_answer d.answer conn)) same;
      })

  told_next : (id now : ℕ) (next : Next) (conn after : ConnParts) → Does counts ends id now next conn old.shards new.shards call outcomes after
      → Told did outcomes
  told_next id now Idle conn after d = not_called d.none
  told_next id now (Ask part) conn after d = for_part id now part conn after new.shards d
  told_next id now Ready conn after d = not_called d.none
  told_next id now (Closed cause) conn after d = not_called d.none
  told_next id now Gone conn after d = not_called d.none

  told_turn : (id now : ℕ) (there : Option ConnParts) → Serves conf counts ends old id now there call outcomes new → Told did outcomes
  told_turn id now None d = not_called d.none
  told_turn id now (Some conn) d = told_next id now (turn conf conn).next (turn conf conn).conn d.after d.does

  told_expiry : (now : ℕ) (shard : Option ℕ) → ExpiresAt counts ends now old shard call outcomes new → Told did outcomes
  told_expiry now None d = not_called d.none
  told_expiry now (Some shard) d = by_itself d.did d.is d.tells

  pub told_in : (event : Event) → StepsTo conf counts ends old event call outcomes new → Told did outcomes
  told_in (Open conn) d = not_called d.none
  told_in (Bytes conn bytes) d = not_called d.none
  told_in (Close conn) d = not_called d.none
  told_in (StepOf conn now) d = told_turn conn now (conn_at conn old.connections) d
  told_in (Expire topic part now) d = told_expiry now (shard_named topic part conf.topics) d
  told_in (Tick now) d = by_itself d.did d.is d.tells
  told_in (Arm disk after mode) d = not_called d.none
  told_in (Power choice) d = not_called d.none

  -- ---- the part that the request in hand asks

  asked_next : (id now : ℕ) (hand : Hand) (next : Next) (conn after : ConnParts) → (awaits_it : (part : Part) → next ≡ Ask part → hand_part hand ≡ part)
      → Does counts ends id now next conn old.shards new.shards call outcomes after
      → (answer : PartAnswer) × (answered_by did ≡ Some (record { part = hand_part hand; answer = answer }))
  asked_next id now hand Idle conn after a d = not_called d.none
  asked_next id now hand (Ask part) conn after a d =
      let same : d.did ≡ did = some_same d.did did (sym d.is ∙ is) in (
        d.answer,
        subst (λ (p : Part). answered_by did ≡ Some (record { part = p; answer = d.answer })) (sym (a part refl)) (ap answered_by (sym same) ∙ d.does),
      )
  asked_next id now hand Ready conn after a d = not_called d.none
  asked_next id now hand (Closed cause) conn after a d = not_called d.none
  asked_next id now hand Gone conn after a d = not_called d.none

-- what is asked is what the work awaits
asks_its : (conf : ConfigParts) (conn : ConnParts) (tags : Bool) (correlation : ℤ) (hand : Hand)
    → (turn conf conn).conn.work ≡ Busy tags correlation hand → (part : Part) → (turn conf conn).next ≡ Ask part → hand_part hand ≡ part
asks_its conf conn tags correlation hand busy part next =
    let it : Awaits (turn conf conn).next (turn conf conn).conn = awaits conf conn (turn conf conn).conn (Ok (turn conf conn).next) (refl, refl) in
    let asked : awaited_part_at (turn conf conn).conn.work (turn conf conn).conn.releases ≡ Some part =
    subst (λ (n : Next). Awaits n (turn conf conn).conn) next it in
    some_same (hand_part hand) part
    (sym (ap (λ (w : Work). awaited_part_at w (turn conf conn).conn.releases) busy) ∙ asked)

module _ (conf : ConfigParts) (s : Step) (step : IsStepOf conf s) where
  abbrev C : Counts
  C = counts_of s.before s.after

  abbrev E : Ends
  E = ends_of s.before s.after

  told : (did : ShardCall) → s.call ≡ Some did → Told did s.outcomes
  told did is = told_in C E conf s.before.machine s.after.machine s.call s.outcomes did is s.event step.machine

  -- the part of this call is the one that the request in hand asks
  in_hand : (did : ShardCall) → s.call ≡ Some did → (hand : Hand) → IsInHand conf s hand
      → (answer : PartAnswer) × (answered_by did ≡ Some (record { part = hand_part hand; answer = answer }))
  in_hand did is hand h =
      let serves : Serves conf C E s.before.machine h.id h.now (conn_at h.id s.before.machine.connections) s.call s.outcomes s.after.machine =
      subst (λ (e : Event). StepsTo conf C E s.before.machine e s.call s.outcomes s.after.machine) h.event step.machine in
      let turns : TakesTurn conf C E s.before.machine h.id h.now h.conn s.call s.outcomes s.after.machine =
      subst (λ (o : Option ConnParts). Serves conf C E s.before.machine h.id h.now o s.call s.outcomes s.after.machine) h.there serves in
      asked_next C E conf s.before.machine s.after.machine s.call s.outcomes did is h.id h.now hand
      (turn conf h.conn).next (turn conf h.conn).conn turns.after (asks_its conf h.conn h.tags h.correlation hand h.busy) turns.does

  -- ---- expiries and releases

  expiry_told : (shard : ℕ) (hosted : Hosted) (freed : ℕ) (group : List ℕ) (fault : StoreFault)
      → Told (CallPart shard hosted (Expires (expire_store freed group fault))) s.outcomes → s.outcomes ≡ Fault (OfPart shard) ∷ []
  expiry_told shard hosted freed group fault (inl tells) = tells
  expiry_told shard hosted freed group fault (inr d) = absurd (none_not _ d.does)

  release_told : (shard : ℕ) (hosted : Hosted) (visit : Visit) (answer : VisitAnswer) (unread : Bool) (fault : StoreFault) → visit.«then» ≡ Release → answer.«then» ≡ then_store fault
      → Told (CallPart shard hosted (Visits visit answer unread)) s.outcomes → (replies : List Outcome) × (s.outcomes ≡ Fault (OfPart shard) ∷ replies)
  release_told shard hosted visit answer unread fault releases unstored t = go t where
    one : fault_of_release shard visit.«then» answer.«then» ≡ Fault (OfPart shard) ∷ []
    one = ap (λ (t : Then). fault_of_release shard t answer.«then») releases ∙ ap (λ (o : ThenOutcome). fault_of_release shard Release o) unstored

    go : Told (CallPart shard hosted (Visits visit answer unread)) s.outcomes → (replies : List Outcome) × (s.outcomes ≡ Fault (OfPart shard) ∷ replies)
    go (inl tells) = ([], tells ∙ one)
    go (inr d) = (d.replies, d.tells ∙ ap (λ (l : List Outcome). l ++ d.replies) one)

-- ---- entries

code_of : (c : Code) → c ≡ KAFKA_STORAGE_ERROR → IsStorageError c.0
code_of c is = ap (λ (k : Code). k.0) is

fetch_acks : (p : Purpose) (told : Option PartitionId) (answer : VisitAnswer) (fault : StoreFault) → answer.ack ≡ ack_store fault
    → IfSome (row_for p told answer) (λ row. IsStorageError row.partition.acknowledge_error_code)
fetch_acks p None answer fault is = tt
fetch_acks p (Some id) answer fault is = code_of (ack_code answer.ack) (ap ack_code is)

ack_acks : (told : Option PartitionId) (answer : VisitAnswer) (fault : StoreFault) → answer.ack ≡ ack_store fault
    → IfSome (option_map (ack_row answer) told) (λ row. IsStorageError row.error_code)
ack_acks None answer fault is = tt
ack_acks (Some id) answer fault is = code_of (ack_code answer.ack) (ap ack_code is)

fetch_fetches : (hand : FetchHand) (p : Purpose) (told : Option PartitionId) (answer : VisitAnswer) (fault : StoreFault) (records bytes : ℕ) (first : Bool)
    → then_of hand p ≡ ThenFetch records bytes first → answer.«then» ≡ then_store fault
    → IfSome (row_for p told answer) (λ row. IsStorageError row.partition.error_code)
fetch_fetches hand p None answer fault records bytes first fetches is = tt
fetch_fetches hand purpose.Nothing (Some id) answer fault records bytes first fetches is = absurd cc
fetch_fetches hand purpose.Release (Some id) answer fault records bytes first fetches is = absurd cc
fetch_fetches hand purpose.Fetch (Some id) answer fault records bytes first fetches is = code_of (then_code answer.«then») (ap then_code is)

ack_never_fetches : {A : Type 0} (p : Purpose) (records bytes : ℕ) (first : Bool) → ack_then p ≡ ThenFetch records bytes first → A
ack_never_fetches purpose.Nothing records bytes first is = absurd cc
ack_never_fetches purpose.Release records bytes first is = absurd cc
ack_never_fetches purpose.Fetch records bytes first is = absurd cc

foreign_code : (answer : ForeignAnswer) (fault : StoreFault) (rose : Type 0) (end : ℕ) (old new : _) (op : ForeignOp)
    → StepsForeign rose end old op answer (Some fault) new → IsStorageError answer.code.0
foreign_code answer Device rose end old new op d = ap (λ (a : ForeignAnswer). a.code.0) d.0
foreign_code answer (Full at) rose end old new op d = ap (λ (a : ForeignAnswer). a.code.0) d.0

-- the part of a visit is asked by a fetch or an acknowledgement, that of a batch by a Produce, and one on foreign state by a state call
part_is : (did : ShardCall) (part other : Part) (answer told : PartAnswer) → answered_by did ≡ Some (record { part = part; answer = answer })
    → answered_by did ≡ Some (record { part = other; answer = told }) → other ≡ part
part_is did part other answer told is at = ap (λ (a : Answered). a.part) (some_same (record { part = other; answer = told }) (record { part = part; answer = answer }) (sym at ∙ is))

no_visit : {P W R A : Type 0} (means : StateMeans P W R) (group : List ℕ) (q : Question W) (shard : ℕ) (visit : Visit)
    → question_part means group q ≡ PartVisit shard visit → A
no_visit means group (asked.Foreign wished) shard visit is = absurd cc
no_visit means group (asked.Hosted partition number) shard visit is = absurd cc

no_batch : {P W R A : Type 0} (means : StateMeans P W R) (group : List ℕ) (q : Question W) (shard : ℕ) (batch : List ℕ)
    → question_part means group q ≡ PartProduce shard batch → A
no_batch means group (asked.Foreign wished) shard batch is = absurd cc
no_batch means group (asked.Hosted partition number) shard batch is = absurd cc

state_entry : {P W R : Type 0} (means : StateMeans P W R) (group : List ℕ) (q : Question W) (op : ForeignOp) (answer : ForeignAnswer)
    → question_part means group q ≡ PartForeign op → IsStorageError answer.code.0 → IsStorageError (question_answer q (AnswerForeign answer)).code.0
state_entry means group (asked.Foreign wished) op answer is code = code
state_entry means group (asked.Hosted partition number) op answer is code = absurd cc

visit_acks : (hand : Hand) (shard : ℕ) (visit : Visit) (answer : VisitAnswer) (fault : StoreFault) → answer.ack ≡ ack_store fault
    → hand_part hand ≡ PartVisit shard visit → TellsAcks hand (AnswerVisit answer)
visit_acks (Produce a) shard visit answer fault is asks = absurd cc
visit_acks (DeleteRecords a) shard visit answer fault is asks = absurd cc
visit_acks (Fetch a) shard visit answer fault is asks = fetch_acks a.question.step.purpose a.question.told answer fault is
visit_acks (Acknowledge a) shard visit answer fault is asks = ack_acks a.question.told answer fault is
visit_acks (Heartbeat a) shard visit answer fault is asks = absurd cc
visit_acks (Initialize a) shard visit answer fault is asks = no_visit initialize_means a.call.group a.question shard visit asks
visit_acks (Read a) shard visit answer fault is asks = no_visit read_means a.call.group a.question shard visit asks
visit_acks (Write a) shard visit answer fault is asks = no_visit write_means a.call.group a.question shard visit asks
visit_acks (Delete a) shard visit answer fault is asks = no_visit delete_means a.call.group a.question shard visit asks

then_is : (m n : ℕ) (v w : Visit) → PartVisit m v ≡ PartVisit n w → v.«then» ≡ w.«then»
then_is m n v w e = let same : v ≡ w = cc in ap (λ (x : Visit). x.«then») same

visit_fetch : (hand : Hand) (shard : ℕ) (visit : Visit) (answer : VisitAnswer) (fault : StoreFault) (records bytes : ℕ) (first : Bool)
    → visit.«then» ≡ ThenFetch records bytes first → answer.«then» ≡ then_store fault
    → hand_part hand ≡ PartVisit shard visit → TellsFetch hand (AnswerVisit answer)
visit_fetch (Produce a) shard visit answer fault records bytes first fetches is asks = absurd cc
visit_fetch (DeleteRecords a) shard visit answer fault records bytes first fetches is asks = absurd cc
visit_fetch (Fetch a) shard visit answer fault records bytes first fetches is asks =
    fetch_fetches a.call a.question.step.purpose a.question.told answer fault records bytes first
    (then_is a.question.step.shard shard (visit_of a.question.step (then_of a.call a.question.step.purpose)) visit asks ∙ fetches) is
visit_fetch (Acknowledge a) shard visit answer fault records bytes first fetches is asks =
    ack_never_fetches a.question.step.purpose records bytes first
    (then_is a.question.step.shard shard (visit_of a.question.step (ack_then a.question.step.purpose)) visit asks ∙ fetches)
visit_fetch (Heartbeat a) shard visit answer fault records bytes first fetches is asks = absurd cc
visit_fetch (Initialize a) shard visit answer fault records bytes first fetches is asks = no_visit initialize_means a.call.group a.question shard visit asks
visit_fetch (Read a) shard visit answer fault records bytes first fetches is asks = no_visit read_means a.call.group a.question shard visit asks
visit_fetch (Write a) shard visit answer fault records bytes first fetches is asks = no_visit write_means a.call.group a.question shard visit asks
visit_fetch (Delete a) shard visit answer fault records bytes first fetches is asks = no_visit delete_means a.call.group a.question shard visit asks

batch_entry : (hand : Hand) (shard : ℕ) (batch : List ℕ) (fault : StoreFault)
    → hand_part hand ≡ PartProduce shard batch → TellsEntry hand (AnswerProduce (log_store fault))
batch_entry (Produce a) shard batch fault asks = refl
batch_entry (DeleteRecords a) shard batch fault asks = absurd cc
batch_entry (Fetch a) shard batch fault asks = absurd cc
batch_entry (Acknowledge a) shard batch fault asks = absurd cc
batch_entry (Heartbeat a) shard batch fault asks = absurd cc
batch_entry (Initialize a) shard batch fault asks = no_batch initialize_means a.call.group a.question shard batch asks
batch_entry (Read a) shard batch fault asks = no_batch read_means a.call.group a.question shard batch asks
batch_entry (Write a) shard batch fault asks = no_batch write_means a.call.group a.question shard batch asks
batch_entry (Delete a) shard batch fault asks = no_batch delete_means a.call.group a.question shard batch asks

no_delete : {P W R A : Type 0} (means : StateMeans P W R) (group : List ℕ) (q : Question W) (shard : ℕ) (to : ℤ)
    → question_part means group q ≡ PartDelete shard to → A
no_delete means group (asked.Foreign wished) shard to is = absurd cc
no_delete means group (asked.Hosted partition number) shard to is = absurd cc

deletion_entry : (hand : Hand) (shard : ℕ) (to : ℤ) (fault : StoreFault)
    → hand_part hand ≡ PartDelete shard to → TellsEntry hand (AnswerDelete (delete_store fault))
deletion_entry (Produce a) shard to fault asks = absurd cc
deletion_entry (DeleteRecords a) shard to fault asks = refl
deletion_entry (Fetch a) shard to fault asks = absurd cc
deletion_entry (Acknowledge a) shard to fault asks = absurd cc
deletion_entry (Heartbeat a) shard to fault asks = absurd cc
deletion_entry (Initialize a) shard to fault asks = no_delete initialize_means a.call.group a.question shard to asks
deletion_entry (Read a) shard to fault asks = no_delete read_means a.call.group a.question shard to asks
deletion_entry (Write a) shard to fault asks = no_delete write_means a.call.group a.question shard to asks
deletion_entry (Delete a) shard to fault asks = no_delete delete_means a.call.group a.question shard to asks

foreign_entry : (hand : Hand) (op : ForeignOp) (answer : ForeignAnswer) → IsStorageError answer.code.0
    → hand_part hand ≡ PartForeign op → TellsEntry hand (AnswerForeign answer)
foreign_entry (Produce a) op answer code asks = absurd cc
foreign_entry (DeleteRecords a) op answer code asks = absurd cc
foreign_entry (Fetch a) op answer code asks = absurd cc
foreign_entry (Acknowledge a) op answer code asks = absurd cc
foreign_entry (Heartbeat a) op answer code asks = absurd cc
foreign_entry (Initialize a) op answer code asks = state_entry initialize_means a.call.group a.question op answer asks code
foreign_entry (Read a) op answer code asks = state_entry read_means a.call.group a.question op answer asks code
foreign_entry (Write a) op answer code asks = state_entry write_means a.call.group a.question op answer asks code
foreign_entry (Delete a) op answer code asks = state_entry delete_means a.call.group a.question op answer asks code

-- ---- a step

module _ (conf : ConfigParts) (s : Step) (step : IsStepOf conf s) where
  asks_part : (did : ShardCall) (part : Part) (answer : PartAnswer) → s.call ≡ Some did → answered_by did ≡ Some (record { part = part; answer = answer })
      → (hand : Hand) → IsInHand conf s hand → hand_part hand ≡ part
  asks_part did part answer call does hand h =
      let found = in_hand conf s step did call hand h in
      part_is did part (hand_part hand) answer found.0 does found.1

  at_foreign : (op : ForeignOp) (answer : ForeignAnswer) (fault : StoreFault) → s.call ≡ Some (CallForeign op answer (Some fault)) → IsStorageError answer.code.0
  at_foreign op answer fault call = ⊎_elim
      (λ free. go (step_acts (C conf s step) (E conf s step) conf s.before.machine s.after.machine s.call s.outcomes s.event free step.machine))
      (λ p.
      let restart : IsRestart s.before.machine s.call s.outcomes s.after.machine =
      subst (λ (e : Event). StepsTo conf (C conf s step) (E conf s step) s.before.machine e s.call s.outcomes s.after.machine) p.1 step.machine in
      absurd (none_not (CallForeign op answer (Some fault)) (sym restart.none ∙ call)))
      (power_or_not s.event)
    where
      go : Acts (C conf s step) (E conf s step) s.before.machine.shards s.after.machine.shards s.call → IsStorageError answer.code.0
      go (inl quiet) = absurd (none_not (CallForeign op answer (Some fault)) (sym quiet.none ∙ call))
      go (inr d) =
          let same : d.did ≡ CallForeign op answer (Some fault) = some_same d.did (CallForeign op answer (Some fault)) (sym d.is ∙ call) in
          let p : StepsShards (C conf s step) (E conf s step) d.now s.before.machine.shards (CallForeign op answer (Some fault)) s.after.machine.shards =
          subst (λ (c : ShardCall). StepsShards (C conf s step) (E conf s step) d.now s.before.machine.shards c s.after.machine.shards) same d.step in
          foreign_code answer fault _ _ _ _ op p.0

  step_tells : TellsStoreFaults conf s
  step_tells = record {
    expiry = λ shard hosted freed group fault call. expiry_told conf s step shard hosted freed group fault
        (told conf s step (CallPart shard hosted (Expires (expire_store freed group fault))) call);
    release = λ shard hosted visit answer unread fault call releases is. release_told conf s step shard hosted visit answer unread fault releases is
        (told conf s step (CallPart shard hosted (Visits visit answer unread)) call);
    acks = λ hand shard hosted visit answer unread fault h call is. visit_acks hand shard visit answer fault is
        (asks_part (CallPart shard hosted (Visits visit answer unread)) (PartVisit shard visit) (AnswerVisit answer) call refl hand h);
    fetch = λ hand shard hosted visit answer unread fault records bytes first h call fetches is. visit_fetch hand shard visit answer fault records bytes first fetches is
        (asks_part (CallPart shard hosted (Visits visit answer unread)) (PartVisit shard visit) (AnswerVisit answer) call refl hand h);
    produce = λ hand shard hosted batch fault h call. batch_entry hand shard batch fault
        (asks_part (CallPart shard hosted (Produces batch (log_store fault))) (PartProduce shard batch) (AnswerProduce (log_store fault)) call refl hand h);
    delete = λ hand shard hosted to fault h call. deletion_entry hand shard to fault
        (asks_part (CallPart shard hosted (Deletes to (delete_store fault))) (PartDelete shard to) (AnswerDelete (delete_store fault)) call refl hand h);
    foreign = λ hand op answer fault h call. foreign_entry hand op answer (at_foreign op answer fault call)
        (asks_part (CallForeign op answer (Some fault)) (PartForeign op) (AnswerForeign answer) call refl hand h);
  }

pub all_tell : (conf : ConfigParts) (first last : State) (steps : List Step) → IsRun conf first steps last → AllByRecursion (TellsStoreFaults conf) steps
all_tell conf first last [] run = tt
all_tell conf first last (s ∷ steps) run = (step_tells conf s run.1, all_tell conf s.after last steps run.2)
