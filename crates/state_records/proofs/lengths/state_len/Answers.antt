use Rattle.std.proofs.Common.{◌≡◌, ◌+◌, ◌*◌, arith, length, subst}
use Rattle.state_records.specs.States.{StateParts}
use Rattle.state_records.specs.Spelling.{complete_bytes, state_bytes}
use Rattle.state_records.proofs.Sizes.{state_length}
use Rattle.state_records.proofs.lengths.state_len.Goals as goal

pub returns-clause-len : goal.returns-clause-len
returns-clause-len c =
    let s = c.state.inside in
    let seen : StateParts = record {
      key = s.key.now;
      snapshot = s.snapshot;
      state_epoch = s.state_epoch;
      leader_epoch = s.leader_epoch;
      start = s.start;
      complete = s.complete;
      runs = s.runs.now;
    } in
    subst (λ (state : StateParts). c.key_len.result + 28 + c.complete_len.result + 19 * length s.runs.now ≡ length (state_bytes state)) c.state.view_is
    (omega (arith, c.key_len.ensures.len, c.complete_len.ensures.len, state_length seen))
