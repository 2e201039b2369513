use Rattle.std.proofs.Common.{List, length, ap, arith}
use Rattle.lock_index.specs.Runs.{held_of}
use Rattle.lock_index.specs.declared.run.HoldRun.{HoldRun}
use Rattle.window_runs.proofs.Splits.{get_within}
use Rattle.window_runs.proofs.Ranges.{cut_gone, run_holds, run_order}
use Rattle.window_runs.proofs.range.cut_at.Goals as goal

pub overlap-gone-requires-clause-some : goal.overlap-gone-requires-clause-some
overlap-gone-requires-clause-some g c = run_order c.args.list.now.runs c.args.place c.at.result.now c.requires.canonical c.at.ensures.run

pub overlap-gone-requires-clause-few : goal.overlap-gone-requires-clause-few
overlap-gone-requires-clause-few g c =
    omega (
      arith,
      c.requires.room.few,
      run_holds c.args.list.now.runs c.args.place c.at.result.now c.requires.canonical c.at.ensures.run,
      get_within c.args.list.now.runs c.args.place c.at.result.now c.at.ensures.run,
    )

pub returns-clause-gone : goal.returns-clause-gone
returns-clause-gone g c =
    let r = c.at.result.now in
    let gone = cut_gone c.args.first c.args.last c.args.place c.args.list.now.runs r c.requires.order c.requires.canonical c.at.ensures.run
    (c.requires.begins r c.at.ensures.run) (c.requires.ends r c.at.ensures.run) in
    let new = ap (λ (l : List HoldRun). length (held_of l)) c.cut_run.ensures.runs in
    omega (arith, gone, new, c.overlap-gone.ensures)
