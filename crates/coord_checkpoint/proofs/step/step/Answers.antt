use Rattle.std.proofs.Common.{◌≡◌, ◌∙◌, ◌+◌, ◌*◌, ◌<◌, ◌≤◌, ◌^◌, inl, inr, ⊎_elim, ap, arith, length, Bool, true, Ok}
use Rattle.std.specs.Result.{IsOk}
use Rattle.gate_journal.specs.Frames.{frame_in}
use Rattle.gate_journal.specs.Journals.{calls_to_mend}
use Rattle.coord_checkpoint.proofs.Beside.{beside_writes, gate_fails}
use Rattle.coord_checkpoint.proofs.Ends.{buffer_len, shut_by}
use Rattle.coord_checkpoint.proofs.Made.{made_writes}
use Rattle.coord_checkpoint.proofs.Trying.{was_err, was_false, was_ok}
use Rattle.coord_checkpoint.proofs.step.step.Goals as goal

pub returns-in-Ok-true : goal.returns-in-Ok-true
returns-in-Ok-true g c =
    let e = c.in-Ok-true.is ∙ ap (λ (b : Bool). Ok b) c.in-Ok-true.field-0-test in
    let m = c.prepare.ensures.made e in
    let few = c.prepare.ensures.few e in
    let room = c.has_room-writes.ensures.0 few.1 in
    let due : 4096 + 2 * length (g.S.Snapshots.rest c.args.snapshots.now) ≤ c.args.live.now.count = omega (arith, c.prepare.ensures.due e, c.count.ensures.count) in
    made_writes g.D.Disk.seen g.met.D.Disk.only_now c.args.live.now c.args.idle.now c.prepare.new.idle c.append.new.self c.args.turn.now c.prepare.new.turn
    (g.S.Snapshots.rest c.args.snapshots.now) (frame_in c.args.buffer.now) (frame_in c.args.fresh.now) (length c.args.buffer.now) (length c.args.fresh.now) (calls_to_mend c.prepare.new.idle.mending + 4)
    m.0 due m.1 c.prepare.ensures.any_moment c.prepare.ensures.runs c.requires.fresh.1 (buffer_len c.args.fresh.now c.requires.fresh.0)
    c.append.result (record {
      adds = c.append.ensures.ok;
      fails = c.append.ensures.failed;
      exact = c.append.ensures.full.exact;
      same = λ end is. (c.append.ensures.full.same end is).0;
      moments = c.append.ensures.any_moment;
      disk = c.append.ensures.disk;
    }) few.0 c.requires.fresh.0.1 (omega (arith, room, c.last_gate.ensures.end)) (c.prepare.ensures.quiet e)

pub returns-in-Ok-false : goal.returns-in-Ok-false
returns-in-Ok-false g c =
    let e = c.in-Ok-false.is ∙ ap (λ (b : Bool). Ok b) c.in-Ok-false.field-0-test in
    let b = c.prepare.ensures.beside (was_false c.prepare.result e) in
    let gate = c.last_gate.ensures.end in
    beside_writes g.D.Disk.seen g.met.D.Disk.only_now c.args.live.now c.args.idle.now c.prepare.new.idle c.args.turn.now c.prepare.new.turn
    (g.S.Snapshots.rest c.args.snapshots.now) (frame_in c.args.buffer.now) (frame_in c.args.fresh.now) (length c.args.buffer.now) (calls_to_mend c.args.live.now.mending + 4)
    (IsOk c.prepare.result × (c.has_room-writes.result ≡ true)) b.0 b.1 c.prepare.ensures.any_moment c.prepare.ensures.runs c.requires.frame.1
    (buffer_len c.args.buffer.now c.requires.frame.0)
    c.append-in-Ok-false.new.self c.append-in-Ok-false.result (record {
      adds = c.append-in-Ok-false.ensures.ok;
      fails = c.append-in-Ok-false.ensures.failed;
      exact = c.append-in-Ok-false.ensures.full.exact;
      same = λ end is. (c.append-in-Ok-false.ensures.full.same end is).0;
      moments = c.append-in-Ok-false.ensures.any_moment;
      disk = c.append-in-Ok-false.ensures.disk;
    })
    (shut_by c.append-in-Ok-false.result c.args.live.now.end (length c.args.buffer.now) (IsOk c.prepare.result × (c.has_room-writes.result ≡ true))
    c.append-in-Ok-false.ensures.full.exact
    (λ (room : c.args.live.now.end + length c.args.buffer.now ≤ 2 ^ 62). (was_ok c.prepare.result _ e, c.has_room-writes.ensures.1 (omega (arith, room, gate)))))
    (elim c.prepare.ensures.same [
      | inl is ↦ inl is
      | inr some ↦ inr (
        ⊎_elim (λ due. inl (omega (arith, due, c.count.ensures.count))) (λ is. inr is) some.0,
        (let room = c.has_room-writes.ensures.0 some.1 in omega (arith, room, gate)),
      )
    ])

pub returns-in-Err : goal.returns-in-Err
returns-in-Err g c =
    let b = c.prepare.ensures.beside (was_err c.prepare.result _ c.in-Err.is) in
    let f = c.in-Err.ensures.failed in
    let room = c.has_room-writes.ensures.0 f.2 in
    gate_fails g.D.Disk.seen g.met.D.Disk.only_now c.args.live.now c.args.idle.now c.prepare.new.idle c.args.turn.now c.prepare.new.turn
    (g.S.Snapshots.rest c.args.snapshots.now) (frame_in c.args.buffer.now) (frame_in c.args.fresh.now) (length c.args.buffer.now) 0
    (IsOk c.prepare.result × (c.has_room-writes.result ≡ true)) b.0 b.1 c.prepare.ensures.any_moment c.prepare.ensures.runs c.requires.frame.1
    (buffer_len c.args.buffer.now c.requires.frame.0)
    (λ (lt : 2 ^ 62 < c.args.live.now.end + length c.args.buffer.now). omega (arith, room, c.last_gate.ensures.end, lt)) f.0 f.1 c.in-Err.ensures.closes
