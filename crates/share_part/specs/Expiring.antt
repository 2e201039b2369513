-- What an expiry is answered and leaves of a shard (KIP-932: a record whose acquisition lock has ended may be delivered again). This
-- project's own are the order of the groups, and that the releases of each are stored by a write of their own.
-- The clock is raised to the expiry's moment first. Then it goes over the groups that have a table, in byte order. All that a group holds
-- by a lock that has ended by the clock is released, by one write; a group that has none is passed, and nothing is written. The first
-- write that fails ends it.
-- Worked example: `g` and `h` hold 0 to 2 until 31000 each. An expiry at 30999 is answered Done { freed: 0 }, and writes nothing. At one at
-- 31000 the write of `g` passes and that of `h` fails: it is answered Store { freed: 3, group: h, fault: Device }, `g` holds nothing, and `h`
-- holds 0 to 2 as before.
use Rattle.std.specs.Prelude.{◌≡◌, ◌⊎◌, ◌≤◌, ◌+◌, ◌-◌, ◌^◌, max, min, ℕ, List, [], ◌∷◌, Option, Some, None, map, nat_le}
use Rattle.std.specs.List.{count_by}
use Rattle.edge_io.specs.Causes.{Rose}
use Rattle.share_model.specs.ForeignRules.{ShareStates}
use Rattle.share_model.specs.Held.{Held}
use Rattle.share_model.specs.declared.fault.StoreFault.{StoreFault}
use Rattle.share_model.specs.declared.visit.ExpireAnswer.{ExpireAnswer}
use Rattle.share_model.specs.declared.visit.ExpireAnswer.TheVariants.{Done, Store}
use Rattle.share_part.specs.Acknowledging.{NameNone, StoresActs}
use Rattle.share_part.specs.Hosting.{PartConfParts}
use Rattle.share_part.specs.Settling.{Acts, is_chosen, releasing}
use Rattle.share_part.specs.Shards.{PartShardState, with_clock_raised}
use Rattle.share_part.specs.declared.settle.Whose.TheVariants.{Due}

-- the releases of all that is held by a lock that has ended by the clock
abbrev pub ending : (clock : ℕ) → Held → Acts
ending clock held = releasing (is_chosen (Due clock)) held

-- how many these are
abbrev pub due_count : (clock : ℕ) → Held → ℕ
due_count clock held = count_by (λ entry. nat_le entry.1.end clock) held

-- the groups that have a table, in byte order
abbrev pub groups_of : ShareStates → List (List ℕ)
groups_of states = map (λ entry. entry.0.group) states

-- so many more are freed; the number is told up to 2^64 - 1
abbrev pub more_freed : ℕ → ℕ → ℕ
more_freed freed count = min (freed + count) (2 ^ 64 - 1)

-- What has ended is released of one group, by the fault that its write met, if it met one. `count` and `later` are how many calls of the
-- two state disks have failed before it and behind it, `end` is where the live journal of the states ends before it.
pub record StepsGroup (conf : PartConfParts) (count later end : ℕ) (old : PartShardState) (group : List ℕ) (fault : Option StoreFault)
    (new : PartShardState) : Type 0 where
  pub counts : count ≤ later
  pub log : new.log ≡ old.log
  pub clock : new.clock ≡ old.clock
  pub stores : StoresActs conf (Rose count later) end old group (ending old.clock (old.held group)) new fault

-- Of groups one after another, where so many records were freed before: each is passed or done, and the others follow; or its write fails, and it
-- is the last.
abbrev pub StepsGroups : PartConfParts → (count later end last : ℕ) → List (List ℕ) → (freed : ℕ) → PartShardState → ExpireAnswer → PartShardState
    → Type 0
StepsGroups conf count later end last [] freed old answer new = (answer ≡ Done freed) × (new ≡ old) × (count ≤ later) × (last ≡ end)
StepsGroups conf count later end last (group ∷ groups) freed old answer new =
    ((between : PartShardState) × (counted : ℕ) × (at : ℕ) × StepsGroup conf count counted end old group None between
    × (NameNone (ending old.clock (old.held group)) → at ≡ end)
    × StepsGroups conf counted later at last groups (more_freed freed (due_count old.clock (old.held group))) between answer new)
    ⊎ ((fault : StoreFault) × (answer ≡ Store freed group fault) × StepsGroup conf count later end old group (Some fault) new)

-- An expiry at the moment `now`. `count` and `later` are how many calls of the two state disks have failed before it and behind it, `end`
-- and `last` are where the live journal of the states ends before it and behind it. A checkpoint of the states may move that end back.
pub record StepsExpire (conf : PartConfParts) (count later end last : ℕ) (old : PartShardState) (now : ℕ) (answer : ExpireAnswer)
    (new : PartShardState) : Type 0 where
  pub clock : new.clock ≡ max old.clock now
  pub log : new.log ≡ old.log
  pub groups : StepsGroups conf count later end last (groups_of old.states) 0 (with_clock_raised now old) answer new
