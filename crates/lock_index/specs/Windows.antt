-- The window of a share partition: the records that are acquired now (KIP-932, the in-flight records of a share partition), and how many
-- more can be acquired with no memory.
-- For example of records that `a` holds at 3, 4 and 7 in one way, the run from 4 on is that from 3 to 4, the one from 5 on is that of 7, and from
-- 8 on there is none.
use Rattle.std.specs.Prelude.{◌≡◌, ◌+◌, ◌≤◌, ◌<◌, ℕ, zero, suc, List, [], ◌∷◌, Option, Some, None}
use Rattle.std.specs.BTreeMap.{insert_entry}
use Rattle.std.specs.List.{slice_get}
use Rattle.std.specs.Ordering.{nat_cmp}
use Rattle.share_model.specs.Held.{Held, hold_at}
use Rattle.share_model.specs.declared.hold.Hold.{Hold}
use Rattle.lock_index.specs.Runs.{IsRunList}
use Rattle.lock_index.specs.declared.run.HoldRun.{HoldRun}

-- what a contract sees of a window
pub record WindowParts : Type 0 where
  pub held : Held
  pub spare : ℕ

-- the offsets are `low` or above, and rise
abbrev pub RisesFrom : ℕ → Held → Type 0
RisesFrom low [] = Unit {0}
RisesFrom low (entry ∷ held) = (low ≤ entry.0) × RisesFrom (entry.0 + 1) held

-- the offsets rise, so that none stands twice
abbrev pub IsRising : Held → Type 0
IsRising held = RisesFrom 0 held

-- so many offsets from one on are held in this way, one after another
abbrev pub holding : (first n : ℕ) → Hold → Held → Held
holding first zero hold held = held
holding first (suc n) hold held = holding (first + 1) n hold (insert_entry nat_cmp held first hold)

-- a run of the run list that doesn't end below `from`: all of its offsets are held in its way, and nothing is held from `from` up to it
pub record IsRunAt (held : Held) (from : ℕ) (run : HoldRun) : Type 0 where
  pub ends : from ≤ run.last
  pub order : run.first ≤ run.last
  pub holds : (offset : ℕ) → run.first ≤ offset → offset ≤ run.last → hold_at held offset ≡ Some run.hold
  pub free : (offset : ℕ) → from ≤ offset → offset < run.first → hold_at held offset ≡ None
  pub listed : (runs : List HoldRun) → IsRunList held runs → (place : ℕ) × (slice_get runs place ≡ Some run)

-- the first run that doesn't end below `from`, where there is one
abbrev pub IsRunFrom : Held → ℕ → Option HoldRun → Type 0
IsRunFrom held from None = (offset : ℕ) → from ≤ offset → hold_at held offset ≡ None
IsRunFrom held from (Some run) = IsRunAt held from run
