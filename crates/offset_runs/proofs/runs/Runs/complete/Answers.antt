use Rattle.std.proofs.Common.{◌≡◌, ◌^◌, ◌∙◌, sym, ap, List}
use Rattle.share_model.specs.declared.run.Run.{Run}
use Rattle.offset_runs.specs.Changes.{RunsParts}
use Rattle.offset_runs.specs.Complete.{complete_between}
use Rattle.offset_runs.proofs.Tallies.{rows_between}
use Rattle.offset_runs.proofs.runs.Runs.complete.Goals as goal

pub returns : goal.returns
returns c =
    let same : c.deref.result.now ≡ c.args.self.now.list = c.deref.ensures.value ∙ ap (λ (r : RunsParts). r.list) c.self.view_is in
    c.complete_between.ensures.count
    ∙ (ap (λ (l : List Run). complete_between l 0 (2 ^ 63)) same ∙ sym (rows_between c.args.self.now.list (2 ^ 63) c.requires))
