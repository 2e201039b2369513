-- Foreign state over a run: the calls that were completed, and of each write that failed on a device whether a power loss found it done
-- (this project's own).
-- For example an initialisation of `g1` meets a device fault and is answered with code 56; then power is lost. The completed calls are
-- none, or that initialisation. Where a write of `g2` was answered with code 0 in between, it alone was completed.
use Rattle.std.specs.Prelude.{◌≡◌, ◌⊎◌, List, [], ◌∷◌, ◌++◌, Option, None, Some, if◌then◌else◌}
use Rattle.session_script.specs.declared.event.Event.{Event}
use Rattle.session_script.specs.declared.event.Event.TheVariants.{Power}
use Rattle.share_model.specs.ForeignRules.{code_alone}
use Rattle.share_model.specs.ForeignRules.{ShareStates}
use Rattle.share_model.specs.declared.fault.StoreFault.TheVariants.{Device, Full}
use Rattle.share_model.specs.ErrorCodes.{NONE}
use Rattle.share_model.specs.declared.foreign.ForeignOp.{ForeignOp}
use Rattle.foreign_coord.specs.Shards.{ForeignShardState, Grants, writes}
use Rattle.broker_model.specs.Shards.{ShardCall}
use Rattle.broker_model.specs.Shards.ShardCall.{CallForeign, CallPart, CallMembers}
use Rattle.broker_model.specs.States.{State}
use Rattle.broker_model.specs.Runs.{Step}
use Rattle.broker_model.specs.History.{Call, AreDone}

abbrev pub foreign_of : State → ForeignShardState
foreign_of state = state.machine.shards.foreign

-- the call, if it is one on foreign state and met no store fault
abbrev pub without_fault : ShardCall → List Call
without_fault (CallForeign op answer None) = record { op = op; answer = answer } ∷ []
without_fault (CallForeign op answer (Some fault)) = []
without_fault (CallPart shard hosted did) = []
without_fault (CallMembers did) = []

-- Which write is unfinished behind a call on these states: none where the call wrote; where it failed on a device, the one from before,
-- or its own, or none.
abbrev pub Leaves : ShareStates → Option ForeignOp → ShardCall → Option ForeignOp → Type 0
Leaves states old (CallForeign op answer None) new = new ≡ (if writes states op answer then None else old)
Leaves states old (CallForeign op answer (Some Device)) new = (new ≡ old) ⊎ ((new ≡ Some op) ⊎ (new ≡ None))
Leaves states old (CallForeign op answer (Some (Full end))) new = new ≡ old
Leaves states old (CallPart shard hosted did) new = new ≡ old
Leaves states old (CallMembers did) new = new ≡ old

abbrev pub CompletesCall : ShareStates → Option ForeignOp → Option ShardCall → List Call → Option ForeignOp → Type 0
CompletesCall states old None calls new = (calls ≡ []) × (new ≡ old)
CompletesCall states old (Some call) calls new = (calls ≡ without_fault call) × Leaves states old call new

-- an unfinished write that a power loss found done counts as one that was accepted
abbrev pub MayLand : Option ForeignOp → List Call → Type 0
MayLand None calls = calls ≡ []
MayLand (Some op) calls = (calls ≡ []) ⊎ (calls ≡ record { op = op; answer = code_alone NONE } ∷ [])

-- the calls that a step completes
abbrev pub Completes : ShareStates → Option ForeignOp → Event → Option ShardCall → List Call → Option ForeignOp → Type 0
Completes states old (Power choice) call calls new = MayLand old calls × (new ≡ None)
Completes states old _ call calls new = CompletesCall states old call calls new

-- the calls that a run completes, in order
abbrev pub AreCompleted : Option ForeignOp → List Step → List Call → Option ForeignOp → Type 0
AreCompleted old [] calls new = (calls ≡ []) × (new ≡ old)
AreCompleted old (s ∷ steps) calls new = (mid : Option ForeignOp) × (first rest : List Call) ×
    Completes (foreign_of s.before).states old s.event s.call first mid × AreCompleted mid steps rest new × (calls ≡ first ++ rest)

-- what is pending is what the unfinished write would leave of these states
abbrev pub IsPending : Option ForeignOp → ShareStates → Option ShareStates → Type 0
IsPending None states pending = pending ≡ None
IsPending (Some op) states pending = (lost : ShareStates) × Grants states op lost × (pending ≡ Some lost)

-- A run leaves the foreign state that its completed calls make, and as pending the one unfinished write.
pub record EndsAsCompleted (first : State) (steps : List Step) (last : State) : Type 0 where
  pub calls : List Call
  pub unfinished : Option ForeignOp
  pub are : AreCompleted None steps calls unfinished
  pub done : AreDone (foreign_of first).states calls (foreign_of last).states
  pub pending : IsPending unfinished (foreign_of last).states (foreign_of last).pending
