-- What a store keeps of one key. This project's own.
-- For example a key that was initialised with epoch 3 and start 7 has these, leader epoch 0 and no runs.
use Rattle.std.specs.Prelude.{◌≤◌, ℕ, length}
use Rattle.share_model.specs.ShareStates.{ShareState}
use Rattle.state_records.specs.States.{IsEpoch, IsStart, AreStoredRuns}

-- a state, and for how many runs its rows have memory
pub record ViewParts : Type 0 where
  pub state : ShareState
  pub room : ℕ

-- the ranges of a state that is kept: a key has at most 1000000 runs
pub record IsKeptState (state : ShareState) : Type 0 where
  pub state_epoch : IsEpoch state.state_epoch
  pub leader_epoch : IsEpoch state.leader_epoch
  pub start : IsStart state.start
  pub runs : AreStoredRuns state.runs
  pub few : length state.runs ≤ 1000000
