use Rattle.std.proofs.Common.{◌++◌, ◌∙◌, List, ap, sym}
use Rattle.std.proofs.lemmas.List.{nil_from_length}
use Rattle.share_model.specs.declared.run.Run.{Run}
use Rattle.offset_runs.specs.Parts.{join}
use Rattle.offset_runs.proofs.Joins.{join-back}
use Rattle.offset_runs.proofs.Merges.{join-none}
use Rattle.offset_runs.proofs.overlay.push_all.Goals as goal

pub returns-in-Some-clause-runs : goal.returns-in-Some-clause-runs
returns-in-Some-clause-runs c =
    let first = c.in-Some.first.now in
    let rest = c.in-Some.rest.now in
    c.push_apart.ensures.runs ∙ ap (λ (l : List Run). l ++ rest) c.push_joined.ensures.runs
    ∙ sym (join-back c.args.out.now.items first rest) ∙ ap (join c.args.out.now.items) (sym c.in-Some.ensures.cases.0)

pub returns-in_default-clause-runs : goal.returns-in_default-clause-runs
returns-in_default-clause-runs c =
    sym (join-none c.args.out.now.items) ∙ ap (join c.args.out.now.items) (sym (nil_from_length c.args.runs.now c.in_default.ensures.cases))
