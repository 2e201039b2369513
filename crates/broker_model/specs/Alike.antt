-- Runs that are alike (this project's own).
-- For example three sessions of the same two frames, on a line each, on one line, and in single bytes, have the same replies.
use Rattle.std.specs.Prelude.{◌≡◌, List, Option, None, Some}
use Rattle.std.specs.List.{AllByRecursion}
use Rattle.session_script.specs.declared.event.Event.{Event}
use Rattle.topic_conf.specs.Configs.{ConfigParts}
use Rattle.broker_model.specs.Shards.{PartCall, ShardCall, store_fault_of_ack, store_fault_of_delete, store_fault_of_expiry, store_fault_of_log, store_fault_of_then}
use Rattle.broker_model.specs.Shards.PartCall.{Visits, Produces, Looks, Expires, Deletes}
use Rattle.broker_model.specs.Shards.ShardCall.{CallForeign, CallPart, CallMembers}
use Rattle.broker_model.specs.States.{State}
use Rattle.broker_model.specs.Runs.{Step, IsRun, events_of, outcomes_of, calls_of, calls_made}
use Rattle.broker_model.specs.Laws.{NoPower}
use Rattle.broker_model.specs.Cutting.{AreRecut}

-- a run over other events, with the same calls on shards, in their order, and the same outcomes
pub record IsLike (conf : ConfigParts) (first : State) (steps : List Step) (last : State) (others : List Event) : Type 0 where
  pub like : List Step
  pub run : IsRun conf first like last
  pub events : events_of like ≡ others
  pub calls : calls_made like ≡ calls_made steps
  pub outcomes : outcomes_of like ≡ outcomes_of steps

-- However bytes are cut, the same comes of the events: each run over the one list is like one over the other.
abbrev pub HasCutRuns : ConfigParts → List Event → List Event → Type 0
HasCutRuns conf events others = (first last : State) (steps : List Step) → AreRecut events others →
    IsRun conf first steps last → events_of steps ≡ events → IsLike conf first steps last others

-- no store of the partition met a fault
abbrev pub PartMetNoFault : PartCall → Type 0
PartMetNoFault (Visits visit answer unread) = (store_fault_of_ack answer.ack ≡ None) × (store_fault_of_then answer.then ≡ None)
PartMetNoFault (Produces batch produced) = store_fault_of_log produced ≡ None
PartMetNoFault (Looks group looked) = Unit {0}
PartMetNoFault (Expires answer) = store_fault_of_expiry answer ≡ None
PartMetNoFault (Deletes to answer) = store_fault_of_delete answer ≡ None

-- no shard's store met a fault
abbrev pub MetNoFault : Option ShardCall → Type 0
MetNoFault None = Unit {0}
MetNoFault (Some (CallForeign op answer fault)) = fault ≡ None
MetNoFault (Some (CallPart shard hosted did)) = PartMetNoFault did
MetNoFault (Some (CallMembers did)) = Unit {0}

-- a run that makes none of the choices of a step
pub record HasNoChoice (steps : List Step) : Type 0 where
  pub calls : AllByRecursion MetNoFault (calls_of steps)
  pub powered : AllByRecursion NoPower (events_of steps)

-- Where no write is refused or fails and no power is lost, what comes of the events is one: two runs over them that begin alike have the
-- same outcomes, and leave the same broker.
abbrev pub HasOneRun : ConfigParts → List Event → Type 0
HasOneRun conf events = (first second one other : State) (steps also : List Step) →
    IsRun conf first steps one → events_of steps ≡ events → HasNoChoice steps →
    IsRun conf second also other → events_of also ≡ events → HasNoChoice also →
    first.machine ≡ second.machine → (outcomes_of steps ≡ outcomes_of also) × (one.machine ≡ other.machine)
