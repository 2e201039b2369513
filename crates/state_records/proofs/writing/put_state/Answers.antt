use Rattle.std.proofs.Common.{◌≡◌, ◌++◌, ◌∙◌, ℕ, ap, subst, arith}
use Rattle.std.specs.Int.{w32, w64, to_be_bytes}
use Rattle.share_model.specs.Rooms.{Appends}
use Rattle.state_records.specs.States.{StateParts, IsState}
use Rattle.state_records.specs.Spelling.{key_bytes, complete_bytes, epoch_number, start_number, runs_bytes, state_bytes}
use Rattle.state_records.proofs.Appends.{appended7}
use Rattle.state_records.proofs.Sizes.{state_length}
use Rattle.state_records.proofs.Signed.{epoch_same, start_same}
use Rattle.state_records.proofs.writing.put_state.Goals as goal

pub returns-clause-written : goal.returns-clause-written
returns-clause-written c =
    let s = c.state.inside in
    let o0 = c.args.out.now in
    let o1 = c.put_key.new.out in
    let o2 = c.put_u64.new.out in
    let o3 = c.put_u32.new.out in
    let o4 = c.put_u32-2.new.out in
    let o5 = c.put_u64-2.new.out in
    let o6 = c.put_complete.new.out in
    let o7 = c.put_runs.new.out in
    let e3 : Appends o2 o3 (to_be_bytes w32 (epoch_number s.state_epoch)) = subst (λ (n : ℕ). Appends o2 o3 (to_be_bytes w32 n))
    (c.epoch_bits.ensures ∙ ap epoch_number (epoch_same s.state_epoch c.state.invariant.0)) c.put_u32.ensures in
    let e4 : Appends o3 o4 (to_be_bytes w32 (epoch_number s.leader_epoch)) = subst (λ (n : ℕ). Appends o3 o4 (to_be_bytes w32 n))
    (c.epoch_bits-2.ensures ∙ ap epoch_number (epoch_same s.leader_epoch c.state.invariant.1)) c.put_u32-2.ensures in
    let e5 : Appends o4 o5 (to_be_bytes w64 (start_number s.start)) = subst (λ (n : ℕ). Appends o4 o5 (to_be_bytes w64 n))
    (c.start_bits.ensures ∙ ap start_number (start_same s.start c.state.invariant.2)) c.put_u64-2.ensures.written in
    subst (λ (state : StateParts). Appends o0 o7 (state_bytes state)) c.state.view_is
    (appended7 o0 o1 o2 o3 o4 o5 o6 o7 (key_bytes s.key.now) (to_be_bytes w64 s.snapshot) (to_be_bytes w32 (epoch_number s.state_epoch)) (to_be_bytes w32 (epoch_number s.leader_epoch))
    (to_be_bytes w64 (start_number s.start)) (complete_bytes s.complete) (runs_bytes s.runs.now)
    c.put_key.ensures.written c.put_u64.ensures.written e3 e4 e5 c.put_complete.ensures.written c.put_runs.ensures)

pub returns-clause-state : goal.returns-clause-state
returns-clause-state c =
    subst IsState c.state.view_is (record {
      key = c.put_key.ensures.key;
      snapshot = c.put_u64.ensures.fits;
      state_epoch = c.state.invariant.0;
      leader_epoch = c.state.invariant.1;
      start = c.state.invariant.2;
      complete = c.put_complete.ensures.fits;
      runs = c.state.invariant.3;
      few = c.state.invariant.4;
    })
