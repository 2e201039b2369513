-- Share-partition states whose start was raised: where it lies below, the state starts there from now on, and its rows
-- below it go (KIP-932: a share-partition's start offset moves with the log's start offset).
-- For example a state that starts at 0, with 0 to 2 acknowledged and 4 to 7 available, raised to 5 starts at 5, and has 5
-- to 7 available; raised to 0 it is as it was.
use Rattle.std.specs.Prelude.{ℕ, ℤ, pos, negsuc, Bool, true, false, map, nat_lt, if◌then◌else◌}
use Rattle.offset_runs.specs.Parts.{from_on}
use Rattle.share_model.specs.ForeignRules.{ShareStates}
use Rattle.share_model.specs.ShareStates.{ShareState}

-- the start lies below an offset; that of a state with no start does
abbrev pub starts_below : ℤ → ℕ → Bool
starts_below (pos n) to = nat_lt n to
starts_below (negsuc n) to = true

abbrev pub raised : ℕ → ShareState → ShareState
raised to state = if starts_below state.start to
    then record {
      state_epoch = state.state_epoch;
      leader_epoch = state.leader_epoch;
      start = pos to;
      runs = from_on state.runs to;
    }
    else state

-- a start that is given lies above that of a state, and raises it
abbrev pub rises : ℤ → ShareState → Bool
rises (pos to) state = starts_below state.start to
rises (negsuc n) state = false

abbrev pub raised_to : ℤ → ShareState → ShareState
raised_to (pos to) state = raised to state
raised_to (negsuc n) state = state

abbrev pub raised_states : ℕ → ShareStates → ShareStates
raised_states to states = map (λ e. (e.0, raised to e.1)) states
