use Rattle.std.proofs.Common.{◌∷◌, ◌∙◌, [], Bool, cond, ap, sym}
use Rattle.offset_runs.specs.Parts.{join, run_before}
use Rattle.offset_runs.proofs.Cuts.{no_lt}
use Rattle.offset_runs.proofs.Merges.{join-none}
use Rattle.offset_runs.proofs.overlay.push_before.Goals as goal

pub returns-else-run-offset-clause-runs : goal.returns-else-run-offset-clause-runs
returns-else-run-offset-clause-runs c =
    sym (join-none c.args.out.now.items)
    ∙ ap (λ (b : Bool). join c.args.out.now.items (cond b (run_before c.args.run c.args.offset ∷ []) [])) (sym (no_lt c.args.run.first c.args.offset c.if-run-offset.false))
