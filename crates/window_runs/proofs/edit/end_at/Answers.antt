use Rattle.std.proofs.Common.{◌∙◌, ap, sym, refl}
use Rattle.window_runs.specs.Kept.{indexed}
use Rattle.window_runs.proofs.Splits.{get_within}
use Rattle.window_runs.proofs.Indexes.{index_same}
use Rattle.window_runs.proofs.edit.end_at.Goals as goal

pub returns-clause-paired : goal.returns-clause-paired
returns-clause-paired g c =
    c.requires.paired ∙ sym (ap indexed c.set.ensures.runs
    ∙ index_same c.args.list.now.runs c.args.place c.args.run (record c.args.run { last = c.args.last }) c.requires.run (get_within _ _ _ c.requires.run) refl)
