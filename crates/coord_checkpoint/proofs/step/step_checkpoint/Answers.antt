use Rattle.std.proofs.Common.{◌≡◌, ◌≤◌, ◌+◌, ◌^◌, ℕ, arith, length, subst, true, false}
use Rattle.coord_checkpoint.specs.Steps.{HasTried, IsDueAt, placed}
use Rattle.coord_checkpoint.proofs.Alone.{no_room, tried_alone, untried}
use Rattle.coord_checkpoint.proofs.Trying.{no_flags}
use Rattle.coord_checkpoint.proofs.step.step_checkpoint.Goals as goal

pub returns-then-not-has_room : goal.returns-then-not-has_room
returns-then-not-has_room g c = untried g.D.Disk.seen g.met.D.Disk.only_now (placed c.args.turn.now.on_second c.args.live.now c.args.idle.now c.args.turn.now)
    (g.S.Snapshots.rest c.args.snapshots.now)
    (no_room c.args.live.now c.args.idle.now c.args.turn.now (g.S.Snapshots.rest c.args.snapshots.now)
    (λ (room : c.args.live.now.end + 33554437 ≤ 2 ^ 62). no_flags c.has_room.result c.if-not-has_room.true (c.has_room.ensures.1 (omega (arith, room, c.last_gate.ensures.end)))))

pub returns : goal.returns
returns g c =
    let room = c.has_room.ensures.0 c.if-not-has_room.false in
    let keys : ℕ = length (g.S.Snapshots.rest c.args.snapshots.now) in
    let count = c.count.ensures.count in
    tried_alone g.D.Disk.seen g.met.D.Disk.only_now c.args.live.now c.args.idle.now c.try_checkpoint.new.idle c.args.turn.now c.try_checkpoint.new.turn
    (g.S.Snapshots.rest c.args.snapshots.now) c.try_checkpoint.ensures.any_moment c.try_checkpoint.ensures.runs (omega (arith, room, c.last_gate.ensures.end))
    c.try_checkpoint.result c.try_checkpoint.ensures.made c.try_checkpoint.ensures.kept
    (subst (λ (n : ℕ). c.try_checkpoint.result ≡ true → IsDueAt c.args.turn.now n keys) count c.try_checkpoint.ensures.may)
    c.try_checkpoint.ensures.quiet
    (subst (λ (n : ℕ). c.try_checkpoint.result ≡ false → HasTried g.D.Disk.seen c.args.idle.now c.try_checkpoint.new.idle c.args.turn.now c.try_checkpoint.new.turn n keys)
    count c.try_checkpoint.ensures.tried)
