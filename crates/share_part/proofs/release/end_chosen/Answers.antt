use Rattle.std.proofs.Common.{arith}
use Rattle.share_part.specs.Settling.{is_chosen}
use Rattle.share_part.proofs.Letting.{all_ended, ended_count, ended_more, fewer, none_ended}
use Rattle.share_part.proofs.release.end_chosen.Goals as goal

pub loop-first-init : goal.loop-first-init
loop-first-init g c = (
  c.count-before.ensures,
  c.known.ensures,
  none_ended (is_chosen c.args.whose.now) (g.W.Window.held c.args.window.now) c.known.ensures c.requires,
)

pub loop-first-preserved : goal.loop-first-preserved
loop-first-preserved g c = (
  c.loop-first.invariant.0,
  c.loop-first.invariant.1,
  ended_more (is_chosen c.args.whose.now) (g.W.Window.held c.args.window.now) (g.W.Window.held c.loop-first.window) c.loop-first.from c.loop-first.invariant.2
      c.in-Some.first c.last_chosen-last.result (g.W.Window.held c.end_hold_counted.new.self) c.in-Some.ensures.some c.last_chosen-last.ensures.from c.last_chosen-last.ensures.chosen c.end_hold_counted.ensures.held,
)

pub overflow_sub-result : goal.overflow_sub-result
overflow_sub-result g c =
    let le = fewer (is_chosen c.args.whose.now) (g.W.Window.held c.args.window.now) (g.W.Window.held c.loop-first.window) c.loop-first.from c.loop-first.invariant.2 c.in_default.ensures.none in
    omega (arith, le, c.count.ensures, c.loop-first.invariant.0)

pub returns-clause-held : goal.returns-clause-held
returns-clause-held g c = all_ended (is_chosen c.args.whose.now) (g.W.Window.held c.args.window.now) (g.W.Window.held c.loop-first.window) c.loop-first.from c.loop-first.invariant.2
    c.loop-first.invariant.1 c.in_default.ensures.none

pub returns-clause-count : goal.returns-clause-count
returns-clause-count g c =
    let is = ended_count (is_chosen c.args.whose.now) (g.W.Window.held c.args.window.now) (g.W.Window.held c.loop-first.window) c.loop-first.from c.loop-first.invariant.2 c.in_default.ensures.none in
    omega (arith, is, c.count.ensures, c.loop-first.invariant.0)
