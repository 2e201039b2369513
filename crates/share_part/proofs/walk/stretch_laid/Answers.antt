use Rattle.std.proofs.Common.{arith}
use Rattle.share_part.proofs.Laying.{laid_out, laid_run, unlaid_before, unlaid_stretch}
use Rattle.share_part.proofs.walk.stretch_laid.Goals as goal

pub returns-in_default : goal.returns-in_default
returns-in_default g c = unlaid_stretch c.args.changed.now c.args.rows.now.list (g.W.Window.held c.args.window.now) c.args.slot _ _ _ c.stretch_from.ensures
    c.stretch_from.ensures.order (omega arith) (λ o lo hi. c.in_default.ensures.behind o lo)

pub returns-then-slot-run : goal.returns-then-slot-run
returns-then-slot-run g c =
    let order = c.stretch_from-stretch.ensures.order in
    unlaid_stretch c.args.changed.now c.args.rows.now.list (g.W.Window.held c.args.window.now) c.args.slot _ _ _ c.stretch_from-stretch.ensures
    (omega (arith, order, c.if-slot-run.true, c.min.ensures)) (omega (arith, c.min.ensures))
    (λ o lo hi. unlaid_before c.args.changed.now c.args.slot c.in-Some.run' c.in-Some.ensures.some o lo (omega (arith, hi, c.min.ensures, c.if-slot-run.true))
    (omega (arith, hi, c.min.ensures, c.if-slot-run.true, c.in-Some.ensures.order)))

pub returns : goal.returns
returns g c = laid_run c.args.changed.now c.args.slot c.in-Some.run' c.in-Some.ensures.some c.args.rows.now.list (g.W.Window.held c.args.window.now) c.in-Some.ensures.ends
    (omega (arith, c.if-slot-run.false)) c.delivery_of.result c.delivery_of.ensures.value c.delivery_of.ensures.few

pub delivery_of-requires : goal.delivery_of-requires
delivery_of-requires g c = laid_out c.args.changed.now c.args.slot c.in-Some.run' c.in-Some.ensures.some c.requires.changed c.in-Some.ensures.ends (omega (arith, c.if-slot-run.false))
