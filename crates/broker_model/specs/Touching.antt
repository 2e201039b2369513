-- What a step leaves alone (this project's own).
-- For example a step of connection 2 leaves connection 1 as it was, and where it produces to `orders` 0 it leaves foreign state, all
-- memberships, and `orders` 1.
use Rattle.std.specs.Prelude.{◌≡◌, ℕ, List, Option, None, Some, false}
use Rattle.session_script.specs.declared.event.Event.{Event}
use Rattle.session_script.specs.declared.event.Outcome.{Outcome}
use Rattle.topic_conf.specs.Configs.{ConfigParts}
use Rattle.broker_model.specs.Hosted.{IsTaken, ChangesAt}
use Rattle.broker_model.specs.Shards.{Shards, ShardCall, HostedPart, calls}
use Rattle.broker_model.specs.Shards.ShardCall.{CallForeign, CallPart, CallMembers}
use Rattle.broker_model.specs.Machine.{conn_at}
use Rattle.broker_model.specs.Cutting.{Spares}
use Rattle.broker_model.specs.Laws.{NoPower, NoArm}
use Rattle.broker_model.specs.States.{State, IsStep}

-- the shards that this call doesn't call stay
abbrev pub KeepsOthers : ShardCall → Shards → Shards → Type 0
KeepsOthers (CallForeign op answer fault) old new = (new.parts ≡ old.parts) × (new.members ≡ old.members)
KeepsOthers (CallPart shard hosted did) old new =
    ChangesAt shard (λ (p q : HostedPart). q.hosted ≡ p.hosted) old.parts new.parts × (new.members ≡ old.members) × (new.foreign ≡ old.foreign)
KeepsOthers (CallMembers did) old new = (new.parts ≡ old.parts) × (new.foreign ≡ old.foreign)

-- A step touches its connection, the shard that it calls, and that shard's disks, and nothing else.
pub record TouchesItsOwn (conf : ConfigParts) (event : Event) (call : Option ShardCall) (old new : State) : Type 0 where
  pub connections : (id : ℕ) → Spares id event → conn_at id new.machine.connections ≡ conn_at id old.machine.connections
  pub shards : NoPower event → call ≡ None → new.machine.shards ≡ old.machine.shards
  pub others : NoPower event → (did : ShardCall) → call ≡ Some did → KeepsOthers did old.machine.shards new.machine.shards
  pub disks : (name : List ℕ) → IsTaken conf name → NoPower event → NoArm name event → calls call name ≡ false → new.disks name ≡ old.disks name

abbrev pub StepsTouchTheirOwn : ConfigParts → Type 0
StepsTouchTheirOwn conf = (old new : State) (event : Event) (call : Option ShardCall) (outcomes : List Outcome) →
    IsStep conf old event call outcomes new → TouchesItsOwn conf event call old new
