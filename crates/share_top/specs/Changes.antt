-- A call of the program: its words, its status, and what it did to what it was handed (this project's
-- own).
-- For example an input that was read to its end has `[]` left, and has ended.
use Rattle.std.specs.Prelude.{◌≡◌, ℕ, List, Bool, false, String}
use Rattle.std.specs.declared.alloc.Global.{Global}
use Rattle.std.specs.declared.option.Option.{Option}
use Rattle.edge_io.specs.Views.{BayView, DiskView}
use Rattle.broker_locks.specs.Shared.{PassesParts, SharedParts}

-- of an input: what it has left, `None` where it doesn't tell; whether it has ended; its count of
-- faults; and that it was not touched
pub record InputChange : Type 1 where
  pub left : Option (List ℕ)
  pub left_after : Option (List ℕ)
  pub ended : Bool
  pub faults : ℕ
  pub faults_after : ℕ
  pub Same : Type 0

abbrev pub input_change : {I : Type 0} → (left : I → Option (List ℕ)) → (ended : I → Bool)
    → (faults : I → ℕ) → I → I → InputChange
input_change left ended faults old new = record {
  left = left old;
  left_after = left new;
  ended = ended new;
  faults = faults old;
  faults_after = faults new;
  Same = new ≡ old;
}

-- of an output: what it holds, `None` where it doesn't tell; its count of faults; and that it was
-- not touched
pub record OutputChange : Type 1 where
  pub held : Option (List ℕ)
  pub held_after : Option (List ℕ)
  pub faults : ℕ
  pub faults_after : ℕ
  pub Same : Type 0

abbrev pub output_change : {O : Type 0} → (O → Option (List ℕ)) → (O → ℕ) → O → O → OutputChange
output_change held faults old new = record {
  held = held old;
  held_after = held new;
  faults = faults old;
  faults_after = faults new;
  Same = new ≡ old;
}

-- of a bay: how it and its disks are seen, and it before and behind the call
pub record BayChange (B D : Type 0) : Type 1 where
  pub seen : B → BayView D
  pub disk_seen : D → DiskView
  pub old : B
  pub new : B

abbrev pub bay_change : {B D : Type 0} → (B → BayView D) → (D → DiskView) → B → B → BayChange B D
bay_change seen disk_seen old new =
    record { seen = seen; disk_seen = disk_seen; old = old; new = new }

-- of a listener: how many links it has given, whether it has told that no more come, its count of
-- faults, and that it was not touched
pub record ListenerChange : Type 1 where
  pub given : ℕ
  pub given_after : ℕ
  pub done : Bool
  pub faults : ℕ
  pub faults_after : ℕ
  pub Same : Type 0

abbrev pub listener_change : {L : Type 0} → (L → ℕ) → (L → Bool) → (L → ℕ) → L → L → ListenerChange
listener_change given done faults old new = record {
  given = given old;
  given_after = given new;
  done = done new;
  faults = faults old;
  faults_after = faults new;
  Same = new ≡ old;
}

-- of a spawner: how many jobs it has refused, and that it was not touched
pub record SpawnerChange : Type 1 where
  pub faults : ℕ
  pub faults_after : ℕ
  pub Same : Type 0

abbrev pub spawner_change : {P : Type 0} → (P → ℕ) → P → P → SpawnerChange
spawner_change faults old new =
    record { faults = faults old; faults_after = faults new; Same = new ≡ old }

-- of what a server alone is handed; `Worked` is said of all that a job did through the passes of
-- its locks
pub record ServerChange (D : Type 0) : Type 1 where
  pub listener : ListenerChange
  pub spawner : SpawnerChange
  pub Worked : SharedParts D → PassesParts D → Type 0

-- nothing was handed to the call for a server
abbrev pub no_server : {D : Type 0} → ServerChange D
no_server = record {
  listener = record {
    given = 0;
    given_after = 0;
    done = false;
    faults = 0;
    faults_after = 0;
    Same = Unit {0};
  };
  spawner = record { faults = 0; faults_after = 0; Same = Unit {0} };
  Worked = λ shared passes. Unit {0};
}

-- the words that it was called with, the number that it gave, and the changes
pub record Call (B D : Type 0) : Type 1 where
  pub words : List (String Global)
  pub number : ℕ
  pub bay : BayChange B D
  pub input : InputChange
  pub output : OutputChange
  pub server : ServerChange D
