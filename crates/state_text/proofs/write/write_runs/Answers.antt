use Rattle.std.proofs.Common.{◌++◌, ◌∙◌}
use Rattle.text_pieces.proofs.Going.{failed, finished, handed}
use Rattle.state_text.specs.Texts.{run_lines}
use Rattle.state_text.proofs.Running.{run_said, runs_end}
use Rattle.state_text.proofs.write.write_runs.Goals as goal

pub loop-run-preserved : goal.loop-run-preserved
loop-run-preserved g c = record {
  so_far = handed _ _ _ _ _ _ _
      (run_said _ _ _ _ _ _ _ _ c.loop-run.invariant.so_far c.in-Some.ensures.cases.0 c.in-Ok.ensures) c.in-Ok-hand_full.ensures.handed.done;
  counted = c.in-Ok-hand_full.ensures.handed.counted (λ e. absurd (let never : ⊥ = cc in never)) ∙ c.loop-run.invariant.counted;
}

pub returns-in-Err : goal.returns-in-Err
returns-in-Err g c =
    failed _ _ _ _ _ _ _ _ _ (c.args.text ++ run_lines c.args.runs.now) c.in-Err.fault
    (run_said _ _ _ _ _ _ _ _ c.loop-run.invariant.so_far c.in-Some.ensures.cases.0 c.in-Ok.ensures)
    c.loop-run.invariant.counted c.in-Err.ensures.handed

pub returns : goal.returns
returns g c =
    finished _ _ _ _ _ _ _ (c.args.text ++ run_lines c.args.runs.now) c.hand_on.result
    (runs_end _ _ _ _ _ c.loop-run.invariant.so_far c.in_default.ensures.cases) c.loop-run.invariant.counted c.hand_on.ensures.written
