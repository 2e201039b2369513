use Rattle.std.proofs.Common.{◌∙◌, Some, None, ap, arith, sym}
use Rattle.lock_index.specs.declared.run.HoldRun.{HoldRun}
use Rattle.window_runs.proofs.Splits.{get_there, get_none}
use Rattle.window_runs.proofs.Counting.{run_from}
use Rattle.window_runs.proofs.search.find_run.Goals as goal

pub returns-then-place-runs : goal.returns-then-place-runs
returns-then-place-runs c =
    run_from c.count_ended-place.result c.args.runs.now c.args.offset None c.requires c.count_ended-place.ensures.ended c.count_ended-place.ensures.others
    (sym (get_none c.args.runs.now c.count_ended-place.result (omega arith)))

pub returns : goal.returns
returns c =
    run_from c.count_ended-place.result c.args.runs.now c.args.offset (Some c.index-runs-place.result) c.requires c.count_ended-place.ensures.ended c.count_ended-place.ensures.others
    (ap (λ (r : HoldRun). Some r) c.index-runs-place.is ∙ sym (get_there c.args.runs.now c.count_ended-place.result c.index-runs-place.result (omega arith)))
