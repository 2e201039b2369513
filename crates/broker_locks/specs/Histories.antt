-- Histories of shards behind locks, state by state: each entry is a step of the machine's shard, or, where no memory was
-- found, or a fetch that waits looked what it would find, nothing. This project's own.
-- For example the history of a partition in which `a` fetches 0, an expiry turn frees it, and `b` fetches it: three entries, each a step of the
-- partition. The lock of `a` ended by the second one. A history without the turn among its entries would grant 0 to two members.
use Rattle.std.specs.Prelude.{◌≡◌, ℕ, List, [], ◌∷◌, Ok, Err}
use Rattle.std.specs.declared.option.Option.{Option}
use Rattle.edge_io.specs.Views.{DiskView}
use Rattle.foreign_coord.specs.Once.{HasRisen}
use Rattle.foreign_coord.specs.Shards.{ForeignShardState, StepsForeign}
use Rattle.share_model.specs.declared.fault.StoreFault.{StoreFault}
use Rattle.share_part.specs.Leaving.{IsLeftOf}
use Rattle.share_part.specs.Shards.{PartShardState}
use Rattle.shard_lock.specs.History.{Leads}
use Rattle.shard_lock.specs.declared.shard.Entry.{Entry}
use Rattle.broker_model.specs.Locks.{GrantsNothingDeleted, KeepsLocksExclusive}
use Rattle.broker_model.specs.Machine.{StandWith}
use Rattle.broker_model.specs.PartHistory.{PartAct, PartStep}
use Rattle.broker_model.specs.PartHistory.PartAct.{Called, NothingDone}
use Rattle.broker_shards.specs.Acts.{ActsForeign, ActsPart, PartDeed, StepsBy, asked_by, told_by}
use Rattle.broker_shards.specs.Acts.PartDeed.{Calls, Offers}
use Rattle.broker_shards.specs.Hosts.{Host}
use Rattle.broker_shards.specs.declared.foreign.ForeignEvent.{ForeignEvent}
use Rattle.broker_shards.specs.declared.foreign.ForeignHost.{ForeignHost}
use Rattle.broker_shards.specs.declared.part.PartEvent.{PartEvent}
use Rattle.broker_locks.specs.Shared.{PartAnswer, StateAnswer}

-- ---- histories of states

-- A call of the machine leads from the one state of a partition to the other, and an offer leaves it as it was; where no memory was found, nothing
-- was done.
abbrev pub MovesPart : {D : Type 0} → (D → DiskView) → (old new : Host D) → PartEvent → PartAnswer → PartShardState → PartShardState → Type 0
MovesPart seen old new event (Ok told) s t = (did : PartDeed) × (event.ask ≡ asked_by did) × (told ≡ told_by did)
    × StepsBy seen old.part new.part event.now s did t
MovesPart seen old new event (Err fault) s t = t ≡ s

-- a crash now finds the log and the tables of this state, each with or without its pending write
abbrev pub FindsPart : {D : Type 0} → (D → DiskView) → Host D → PartShardState → Type 0
FindsPart seen host s = (l a b : List ℕ) → (seen host.part.log.journal.disk).image l → (seen host.part.states.journal.first.disk).image a
    → (seen host.part.states.journal.second.disk).image b → IsLeftOf host.part.conf s l a b

-- An act on a partition in memory, and on the state for which it stands. What a crash finds within it is a part of the act; behind it a crash
-- finds the state that it leads to.
pub record StepsPart {D : Type 0} (seen : D → DiskView) (old : Host D × PartShardState) (event : PartEvent) (answer : PartAnswer)
    (new : Host D × PartShardState) : Type 0 where
  pub acts : ActsPart seen old.0 event answer new.0
  pub moves : MovesPart seen old.0 new.0 event answer old.1 new.1
  pub found : FindsPart seen new.0 new.1

abbrev pub MovesForeign : {D : Type 0} → (D → DiskView) → (old new : ForeignHost D) → ForeignEvent → StateAnswer → ForeignShardState → ForeignShardState
    → Type 0
MovesForeign seen old new event (Ok answer) s t = (fault : Option StoreFault)
    × StepsForeign (HasRisen seen old.foreign new.foreign) old.foreign.journal.end s event.op answer fault t
MovesForeign seen old new event (Err fault) s t = t ≡ s

-- a crash now finds these states, with or without the pending write
abbrev pub FindsStates : {D : Type 0} → (D → DiskView) → ForeignHost D → ForeignShardState → Type 0
FindsStates seen host s =
    (a b : List ℕ) → (seen host.foreign.journal.first.disk).image a → (seen host.foreign.journal.second.disk).image b → StandWith s a b

-- the same of an act on foreign state
pub record StepsStates {D : Type 0} (seen : D → DiskView) (old : ForeignHost D × ForeignShardState) (event : ForeignEvent) (answer : StateAnswer)
    (new : ForeignHost D × ForeignShardState) : Type 0 where
  pub acts : ActsForeign seen old.0 event answer new.0
  pub moves : MovesForeign seen old.0 new.0 event answer old.1 new.1
  pub found : FindsStates seen new.0 new.1

-- ---- exclusive locks of a history

-- the call of the machine that it was; an offer is none
abbrev pub call_in : PartDeed → PartAct
call_in (Calls call) = Called call
call_in (Offers group offer) = NothingDone

-- the call that was made, or none where no memory was found
abbrev pub act_of : {D : Type 0} (seen : D → DiskView) (old new : Host D) (event : PartEvent) (answer : PartAnswer) (s t : PartShardState)
    → MovesPart seen old new event answer s t → PartAct
act_of seen old new event (Ok told) s t moves = call_in moves.0
act_of seen old new event (Err fault) s t same = NothingDone

-- the entries of a history as steps of its partition alone
abbrev pub steps_of : {D : Type 0} (seen : D → DiskView) (old new : Host D × PartShardState) (entries : List (Entry PartEvent PartAnswer))
    → Leads (StepsPart seen) old entries new → List PartStep
steps_of seen old new [] leads = []
steps_of seen old new (e ∷ entries) leads =
    record { before = old.1; act = act_of seen old.0 leads.0.0 e.event e.answer old.1 leads.0.1 leads.1.moves; after = leads.0.1 }
    ∷ steps_of seen leads.0 new entries leads.2

-- The entries lead from the one partition and its state to the other, step by step of the machine. Of two grants of one record among them the
-- first lock ends by an entry between them or by the second one's own acknowledgements: an expiry turn's is an entry like any other. Nor is one
-- granted that lies below the log's start.
pub record IsHistory {D : Type 0} (seen : D → DiskView) (old : Host D × PartShardState) (entries : List (Entry PartEvent PartAnswer))
    (new : Host D × PartShardState) : Type 0 where
  pub leads : Leads (StepsPart seen) old entries new
  pub exclusive : KeepsLocksExclusive old.0.part.conf (steps_of seen old new entries leads)
  pub deleted : GrantsNothingDeleted old.0.part.conf (steps_of seen old new entries leads)
