use Rattle.std.proofs.Common.{◌≤◌, ◌+◌, sym, subst, arith, ℕ}
use Rattle.share_part.specs.Acting.{AreHeldSo, AreRowsTo}
use Rattle.share_part.specs.Settling.{is_chosen, releasing}
use Rattle.share_part.proofs.Doing.{all_released, none_released, run_so, up_to_next}
use Rattle.share_part.proofs.Fewer.{held_less}
use Rattle.share_part.proofs.settle.release_all.Goals as goal

pub loop-run-init : goal.loop-run-init
loop-run-init g c = record {
  rows = none_released c.args.limit (is_chosen c.args.whose.now) (g.W.Window.held c.args.window.now) c.args.rows.now.list c.requires.none;
  spare = c.requires.spare;
  room = omega arith;
}

pub release_run-requires-clause-spare : goal.release_run-requires-clause-spare
release_run-requires-clause-spare g c =
    let run = c.in-Some.run'.now in
    let is = c.in-Some.ensures in
    let up : c.loop-run.from ≤ c.max.result = omega (arith, c.max.ensures) in
    let within : c.max.result ≤ run.last = omega (arith, c.max.ensures, is.ends, is.order) in
    let at = is.holds c.max.result (omega (arith, c.max.ensures)) within in
    let fewer = held_less c.loop-run.from c.max.result (run.last + 1) (g.W.Window.held c.args.window.now) run.hold up (omega (arith, within)) at in
    let spare = c.loop-run.invariant.spare in
    omega (arith, fewer, spare)

pub overflow_add-from : goal.overflow_add-from
overflow_add-from g c =
    let run = c.in-Some.run'.now in
    let below = c.requires.below run.last run.hold (c.in-Some.ensures.holds run.last c.in-Some.ensures.order (omega arith)) in
    omega (arith, below)

pub loop-run-preserved : goal.loop-run-preserved
loop-run-preserved g c =
    let run = c.in-Some.run'.now in
    let is = c.in-Some.ensures in
    let up : c.loop-run.from ≤ c.max.result = omega (arith, c.max.ensures) in
    let within : c.max.result ≤ run.last = omega (arith, c.max.ensures, is.ends, is.order) in
    let at = is.holds c.max.result (omega (arith, c.max.ensures)) within in
    let fewer = held_less c.loop-run.from c.max.result (run.last + 1) (g.W.Window.held c.args.window.now) run.hold up (omega (arith, within)) at in
    let spare = c.loop-run.invariant.spare in
    let room = c.loop-run.invariant.room in
    record {
      rows = c.release_run.ensures.rows (g.W.Window.held c.args.window.now)
          (subst (λ (n : ℕ). AreHeldSo (g.W.Window.held c.args.window.now) n run.last run.hold) (sym c.max.ensures)
          (run_so c.args.limit (is_chosen c.args.whose.now) (g.W.Window.held c.args.window.now) c.loop-run.from run is))
          (subst (λ (n : ℕ). AreRowsTo c.args.limit (releasing (is_chosen c.args.whose.now) (g.W.Window.held c.args.window.now)) (g.W.Window.held c.args.window.now) n c.loop-run.rows.list)
          (sym c.max.ensures) (up_to_next c.args.limit (is_chosen c.args.whose.now) (g.W.Window.held c.args.window.now) c.loop-run.from run c.loop-run.rows.list is c.loop-run.invariant.rows));
      spare = omega (arith, fewer, spare, c.release_run.ensures.spare);
      room = omega (arith, room, c.release_run.ensures.room);
    }

pub returns-clause-rows : goal.returns-clause-rows
returns-clause-rows g c = all_released c.args.limit (is_chosen c.args.whose.now) (g.W.Window.held c.args.window.now) c.loop-run.from c.loop-run.rows.list c.in_default.ensures c.loop-run.invariant.rows

pub returns-clause-room : goal.returns-clause-room
returns-clause-room g c = c.loop-run.invariant.room
