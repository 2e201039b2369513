-- What holds of the fields of a history.
use Rattle.std.specs.Prelude.{◌≡◌, ℕ, ◌≤◌, List, ◌++◌, length, drop}
use Rattle.edge_mem.specs.Events.{State, run, first_state, content_of}
use Rattle.edge_mem.specs.Steps.{events, changes}
use Rattle.edge_mem.specs.declared.change.Step.{Step}

abbrev pub state_of : List ℕ → List Step → State
state_of first log = run (first_state first) (events log)

pub record IsSound (first era bytes : List ℕ) (log : List Step) (start kept : ℕ) : Type 0 where
  pub era_is : era ≡ (state_of first log).first
  pub steps_are : changes (drop start log) ≡ (state_of first log).kept ++ (state_of first log).changes
  pub kept_is : kept ≡ length (state_of first log).kept
  pub bytes_are : bytes ≡ content_of (state_of first log)
  pub begins : start ≤ length log
