use Rattle.std.proofs.Common.{◌≡◌, ◌+◌, ◌<◌, ◌≤◌, ◌^◌, inl, inr, arith, length, true, Err}
use Rattle.std.specs.Result.{IsOk}
use Rattle.gate_journal.specs.Frames.{frame_in}
use Rattle.gate_journal.specs.Journals.{calls_to_mend}
use Rattle.share_model.specs.declared.fault.StoreFault.TheVariants.{Device}
use Rattle.coord_checkpoint.proofs.Alone.{stays_on}
use Rattle.coord_checkpoint.proofs.Beside.{beside_writes, gate_fails}
use Rattle.coord_checkpoint.proofs.Ends.{buffer_len, shut_by}
use Rattle.coord_checkpoint.proofs.Made.{calls_quiet}
use Rattle.coord_checkpoint.proofs.Trying.{no_flags, ok_is, preparing_stays, same_turn, stays_ready, then_moments, then_ready, then_turn}
use Rattle.coord_checkpoint.proofs.step.step_plain.Goals as goal

pub returns-in-Err-clause-writes : goal.returns-in-Err-clause-writes
returns-in-Err-clause-writes g c = λ fresh snapshots.
    let still = same_turn g.D.Disk.seen g.met.D.Disk.only_now c.args.idle.now c.args.turn.now snapshots in
    let f = c.in-Err.ensures.failed in
    let room = c.has_room-writes.ensures.0 f.1 in
    gate_fails g.D.Disk.seen g.met.D.Disk.only_now c.args.live.now c.args.idle.now c.close_before.new.idle c.args.turn.now c.close_before.new.turn
    snapshots (frame_in c.args.buffer.now) fresh (length c.args.buffer.now) 0
    (IsOk c.close_before.result × (c.has_room-writes.result ≡ true))
    (then_turn g.D.Disk.seen c.args.idle.now c.args.idle.now c.close_before.new.idle c.args.turn.now c.args.turn.now c.close_before.new.turn snapshots _ c.has_room-writes.result still c.close_before.ensures.ready c.close_before.ensures.turn)
    (λ sealing r. then_ready g.D.Disk.seen c.args.idle.now c.args.idle.now c.close_before.new.idle c.args.turn.now c.args.turn.now c.close_before.new.turn snapshots _ c.has_room-writes.result still c.close_before.ensures.ready sealing
    (stays_ready g.D.Disk.seen g.met.D.Disk.only_now c.args.idle.now c.args.turn.now snapshots sealing r))
    (λ sealing r. then_moments g.D.Disk.seen c.args.idle.now c.args.idle.now c.close_before.new.idle c.args.turn.now c.args.turn.now c.close_before.new.turn snapshots _ c.has_room-writes.result still c.close_before.ensures.ready sealing
    (stays_ready g.D.Disk.seen g.met.D.Disk.only_now c.args.idle.now c.args.turn.now snapshots sealing r)
    (preparing_stays g.D.Disk.seen g.met.D.Disk.only_now c.args.idle.now c.args.turn.now snapshots sealing r) (c.close_before.ensures.any_moment _ (stays_ready g.D.Disk.seen g.met.D.Disk.only_now c.args.idle.now c.args.turn.now snapshots sealing r).ready))
    c.close_before.ensures.runs c.requires.frame.1 (buffer_len c.args.buffer.now c.requires.frame.0)
    (λ (lt : 2 ^ 62 < c.args.live.now.end + length c.args.buffer.now). omega (arith, room, c.last_gate.ensures.end, lt)) c.in-Err.ensures.cause f.0
    (λ low. absurd (no_flags c.args.turn.now.sealing low c.in-Err.ensures.sealing))

pub returns-clause-writes : goal.returns-clause-writes
returns-clause-writes g c = λ fresh snapshots.
    let still = same_turn g.D.Disk.seen g.met.D.Disk.only_now c.args.idle.now c.args.turn.now snapshots in
    let gate = c.last_gate.ensures.end in
    beside_writes g.D.Disk.seen g.met.D.Disk.only_now c.args.live.now c.args.idle.now c.close_before.new.idle c.args.turn.now c.close_before.new.turn
    snapshots (frame_in c.args.buffer.now) fresh (length c.args.buffer.now) (calls_to_mend c.args.live.now.mending + 4)
    (IsOk c.close_before.result × (c.has_room-writes.result ≡ true))
    (then_turn g.D.Disk.seen c.args.idle.now c.args.idle.now c.close_before.new.idle c.args.turn.now c.args.turn.now c.close_before.new.turn snapshots _ c.has_room-writes.result still c.close_before.ensures.ready c.close_before.ensures.turn)
    (λ sealing r. then_ready g.D.Disk.seen c.args.idle.now c.args.idle.now c.close_before.new.idle c.args.turn.now c.args.turn.now c.close_before.new.turn snapshots _ c.has_room-writes.result still c.close_before.ensures.ready sealing
    (stays_ready g.D.Disk.seen g.met.D.Disk.only_now c.args.idle.now c.args.turn.now snapshots sealing r))
    (λ sealing r. then_moments g.D.Disk.seen c.args.idle.now c.args.idle.now c.close_before.new.idle c.args.turn.now c.args.turn.now c.close_before.new.turn snapshots _ c.has_room-writes.result still c.close_before.ensures.ready sealing
    (stays_ready g.D.Disk.seen g.met.D.Disk.only_now c.args.idle.now c.args.turn.now snapshots sealing r)
    (preparing_stays g.D.Disk.seen g.met.D.Disk.only_now c.args.idle.now c.args.turn.now snapshots sealing r) (c.close_before.ensures.any_moment _ (stays_ready g.D.Disk.seen g.met.D.Disk.only_now c.args.idle.now c.args.turn.now snapshots sealing r).ready))
    c.close_before.ensures.runs c.requires.frame.1 (buffer_len c.args.buffer.now c.requires.frame.0)
    c.append.new.self c.append.result (record {
      adds = c.append.ensures.ok;
      fails = c.append.ensures.failed;
      exact = c.append.ensures.full.exact;
      same = λ end is. (c.append.ensures.full.same end is).0;
      moments = c.append.ensures.any_moment;
      disk = c.append.ensures.disk;
    })
    (shut_by c.append.result c.args.live.now.end (length c.args.buffer.now) (IsOk c.close_before.result × (c.has_room-writes.result ≡ true))
    c.append.ensures.full.exact
    (λ (room : c.args.live.now.end + length c.args.buffer.now ≤ 2 ^ 62). (ok_is c.close_before.result c.in_default.is, c.has_room-writes.ensures.1 (omega (arith, room, gate)))))
    (elim c.close_before.ensures.same [
      | inl is ↦ inl is
      | inr some ↦ inr (inr some.0, (let room = c.has_room-writes.ensures.0 some.1 in omega (arith, room, gate)))
    ])

pub returns-in-Err-clause-alone : goal.returns-in-Err-clause-alone
returns-in-Err-clause-alone g c = stays_on g.D.Disk.seen c.args.live.now c.args.idle.now c.args.live.now c.close_before.new.idle c.args.turn.now c.close_before.new.turn
    c.close_before.ensures.turn _ c.close_before.ensures.same (Err Device) tt

pub returns-clause-alone : goal.returns-clause-alone
returns-clause-alone g c = stays_on g.D.Disk.seen c.args.live.now c.args.idle.now c.append.new.self c.close_before.new.idle c.args.turn.now c.close_before.new.turn
    c.close_before.ensures.turn _ c.close_before.ensures.same c.append.result (calls_quiet g.D.Disk.seen _ _ _ c.append.result c.append.ensures.disk)
