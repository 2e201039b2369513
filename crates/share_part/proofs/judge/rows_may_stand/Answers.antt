use Rattle.std.proofs.Common.{refl, sym, subst, arith}
use Rattle.share_model.specs.declared.row.RowState.TheVariants.{Available}
use Rattle.share_part.specs.Judging.{RowsMayStand}
use Rattle.share_part.proofs.Standing.{none_stand, run_more, run_order, run_stands, drop_all}
use Rattle.share_part.proofs.judge.rows_may_stand.Goals as goal

pub loop-run-init : goal.loop-run-init
loop-run-init g c = λ h. h

pub may_stand-requires-clause-order : goal.may_stand-requires-clause-order
may_stand-requires-clause-order g c = run_order c.args.log.now.batches c.args.start c.args.runs.now c.requires.canonical c.loop-run.run-index
    (record { first = 0; last = 0; state = Available; count = 0 }) c.loop-run-test.true

pub returns-then-not-may_stand : goal.returns-then-not-may_stand
returns-then-not-may_stand g c = (
  λ e. absurd (let clash : ⊥ = cc in clash),
  λ h. absurd (let is = c.may_stand.ensures.1 (run_stands c.args.log.now.batches c.args.start c.args.runs.now c.requires.canonical c.loop-run.run-index
      (record { first = 0; last = 0; state = Available; count = 0 }) c.loop-run-test.true h) in let clash : ⊥ = cc in clash),
)

pub loop-run-preserved : goal.loop-run-preserved
loop-run-preserved g c = run_more c.args.log.now.batches c.args.start c.args.runs.now c.loop-run.run-index (record { first = 0; last = 0; state = Available; count = 0 })
    c.loop-run-test.true (c.may_stand.ensures.0 c.if-not-may_stand.false) c.loop-run.invariant

pub returns : goal.returns
returns g c = (
  λ e. c.loop-run.invariant (subst (RowsMayStand c.args.log.now.batches c.args.start) (sym (drop_all c.args.runs.now c.loop-run.run-index (omega (arith, c.loop-run-test.false))))
      (none_stand c.args.log.now.batches c.args.start)),
  λ h. refl,
)
