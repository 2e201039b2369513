use Rattle.std.proofs.Common.{arith, ◌-◌, ◌∙◌, sym}
use Rattle.offset_runs.proofs.Pushes.{push-touching, push-apart, push-empty, pushed}
use Rattle.offset_runs.proofs.joining.push_joined.Goals as goal
use Rattle.offset_runs.proofs.joining.push_joined.Goals.{else-count-gt0-via-then-count-gt0+else-touches, else-count-gt0-via-else-count-gt0}

pub returns-then-touches-clause-runs : goal.returns-then-touches-clause-runs
returns-then-touches-clause-runs c =
    push-touching c.args.runs.now.items (c.len-count.result - 1) c.args.run c.index_mut.result.now c.index.result.now (omega arith)
    c.index_mut.ensures.value c.index.ensures (sym c.if-touches.ensures)

pub returns-clause-runs : goal.returns-clause-runs
returns-clause-runs c =
    pushed c.push.result _ _ _ (c.push.ensures.succeeds c.requires) c.push.ensures.items ∙ elim c.else-count-gt0.branch [
      | else-count-gt0-via-then-count-gt0+else-touches w ↦
          push-apart c.args.runs.now.items (c.len-count.result - 1) c.args.run w.index.result.now (omega arith) w.index.ensures (sym w.touches.ensures ∙ w.if-touches.false)
      | else-count-gt0-via-else-count-gt0 w ↦ push-empty c.args.runs.now.items c.args.run (omega arith)
    ]
