use Rattle.std.proofs.Common.{◌≡◌, sym, subst, List, rules}
use Rattle.std.specs.Prelude.{All}
use Rattle.share_model.specs.declared.run.Run.{Run}
use Rattle.call_fold.specs.Parts.{IsTellable}
use Rattle.broker_shards.proofs.Telling.{runs_told}
use Rattle.broker_shards.proofs.told.looked.Goals as goal

pub returns-clause-tellable : goal.returns-clause-tellable
returns-clause-tellable g c =
    let same : c.new.result ≡ c.in-Some.view.now.state.runs = search rules in
    subst (λ (l : List Run). All IsTellable l) (sym same) (runs_told c.in-Some.view.now.state.runs c.known.ensures.runs)
