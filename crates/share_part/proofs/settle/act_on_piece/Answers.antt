use Rattle.std.proofs.Common.{◌≡◌, ◌≤◌, ◌+◌, subst, arith, ℕ}
use Rattle.offset_runs.specs.Changes.{PutsRange}
use Rattle.share_model.specs.declared.row.Row.{Row}
use Rattle.share_part.specs.Acting.{AreDoneTo, HasSpareFrom}
use Rattle.share_part.proofs.Doing.{done_more, missing_at}
use Rattle.share_part.proofs.Fewer.{held_with}
use Rattle.share_part.proofs.settle.act_on_piece.Goals as goal

pub loop-from-init : goal.loop-from-init
loop-from-init g c = record {
  begun = omega arith;
  within = (let order = c.requires.order in omega (arith, order));
  done = λ acts start says. start;
  spare = c.requires.spare;
  room = omega arith;
}

pub put_reserved-requires : goal.put_reserved-requires
put_reserved-requires g c =
    let order : c.loop-from.from ≤ c.min-last.result = omega (arith, c.min-last.ensures, c.in-Some.ensures.some.order, c.loop-from-test.true) in
    let fewer = held_with c.args.member.now c.in-Some.stretch.count c.loop-from.from (c.min-last.result + 1) (g.W.Window.held c.args.window.now)
    (c.in-Some.ensures.some.theirs c.loop-from.from (omega arith) c.in-Some.ensures.some.order) (omega (arith, order)) in
    let spare = c.loop-from.invariant.spare in
    omega (arith, fewer, spare)

pub loop-from-preserved : goal.loop-from-preserved
loop-from-preserved g c =
    let order : c.loop-from.from ≤ c.min-last.result = omega (arith, c.min-last.ensures, c.in-Some.ensures.some.order, c.loop-from-test.true) in
    let within : c.min-last.result ≤ c.in-Some.stretch.last = omega (arith, c.min-last.ensures) in
    let fewer = held_with c.args.member.now c.in-Some.stretch.count c.loop-from.from (c.min-last.result + 1) (g.W.Window.held c.args.window.now)
    (c.in-Some.ensures.some.theirs c.loop-from.from (omega arith) c.in-Some.ensures.some.order) (omega (arith, order)) in
    let spare = c.loop-from.invariant.spare in
    let room = c.loop-from.invariant.room in
    let begun = c.loop-from.invariant.begun in
    record {
      begun = omega (arith, begun, order);
      within = omega (arith, c.min-last.ensures);
      done = λ acts start says. done_more c.args.limit c.args.member.now acts (g.W.Window.held c.args.window.now) c.loop-from.from c.min-last.result c.args.piece.kind c.in-Some.stretch.count
          c.loop-from.rows.list c.put_reserved.new.self.list (c.loop-from.invariant.done acts start says)
          (λ o lo hi. says o (omega (arith, begun, lo)) (omega (arith, hi, c.min-last.ensures)))
          (record { order = order; theirs = λ o lo hi. c.in-Some.ensures.some.theirs o lo (omega (arith, hi, within)) })
          (subst (λ (r : Row). PutsRange c.loop-from.rows.list c.put_reserved.new.self.list c.loop-from.from c.min-last.result r) c.settled.ensures c.put_reserved.ensures.put);
      spare = omega (arith, fewer, spare, c.put_reserved.ensures.spare);
      room = omega (arith, room, c.put_reserved.ensures.room);
    }

pub returns-in_default-clause-done : goal.returns-in_default-clause-done
returns-in_default-clause-done g c = λ acts start says. missing_at c.args.limit c.args.member.now acts (g.W.Window.held c.args.window.now) c.loop-from.from c.args.piece.kind c.loop-from.rows.list
    (c.loop-from.invariant.done acts start says) (says c.loop-from.from c.loop-from.invariant.begun c.loop-from-test.true) c.in_default.ensures.none

pub returns-in_default-clause-room : goal.returns-in_default-clause-room
returns-in_default-clause-room g c = c.loop-from.invariant.room

pub returns-clause-done : goal.returns-clause-done
returns-clause-done g c = λ acts start says.
    let at : c.loop-from.from ≡ c.args.piece.last + 1 = (let within = c.loop-from.invariant.within in omega (arith, within, c.loop-from-test.false)) in
    subst (λ (n : ℕ). AreDoneTo c.args.limit c.args.member.now acts (g.W.Window.held c.args.window.now) n c.loop-from.rows.list) at (c.loop-from.invariant.done acts start says)

pub returns-clause-spare : goal.returns-clause-spare
returns-clause-spare g c = λ none.
    let at : c.loop-from.from ≡ c.args.piece.last + 1 = (let within = c.loop-from.invariant.within in omega (arith, within, c.loop-from-test.false)) in
    subst (λ (n : ℕ). HasSpareFrom (g.W.Window.held c.args.window.now) n c.loop-from.rows.spare) at c.loop-from.invariant.spare

pub returns-clause-room : goal.returns-clause-room
returns-clause-room g c = c.loop-from.invariant.room
