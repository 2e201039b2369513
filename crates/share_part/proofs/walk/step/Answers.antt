use Rattle.std.proofs.Common.{◌++◌, ◌∙◌, arith}
use Rattle.share_part.specs.Collecting.{left_by}
use Rattle.share_part.proofs.Walking.{goes_past, lies}
use Rattle.share_part.proofs.walk.step.Goals as goal

pub returns-in_default-clause-goes : goal.returns-in_default-clause-goes
returns-in_default-clause-goes g c = λ start walk h.
    let s = c.stretch_laid-stretch.ensures in
    goes_past c.args.log.now.batches (record { start = start; rows = c.args.changed.now ++ c.args.rows.now.list; held = left_by c.args.changed.now (g.W.Window.held c.args.window.now) }) c.args.collector.now walk c.args.slot _ c.stretch_laid-stretch.result.last
    (omega arith) (omega (arith, s.order, c.min-more.ensures))
    (λ o lo hi. lies c.args.log.now.batches (c.args.changed.now ++ c.args.rows.now.list) (left_by c.args.changed.now (g.W.Window.held c.args.window.now)) c.requires.lie o (s.there c.in_default.is o lo hi))
    (λ o lo hi. s.same o lo hi ∙ c.in_default.is) h
