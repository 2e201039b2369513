use Rattle.std.proofs.Common.{◌∙◌, ℕ, List, ap, sym, subst}
use Rattle.std.specs.List.{remove}
use Rattle.lock_index.specs.Locks.{HasPair}
use Rattle.window_runs.specs.Kept.{indexed, pair_of}
use Rattle.window_runs.proofs.Indexes.{has_put, index_get, put_once}
use Rattle.window_runs.proofs.edit.drop_run.Goals as goal

pub take-requires : goal.take-requires
take-requires g c =
    let was = c.requires.paired ∙ index_get c.args.list.now.runs c.args.place c.take_at-run.result c.take_at-run.ensures.run in
    subst (λ (l : List (ℕ × ℕ)). HasPair l (pair_of c.take_at-run.result)) (sym was) (has_put (pair_of c.take_at-run.result) (indexed (remove c.args.list.now.runs c.args.place)))

pub returns-clause-paired : goal.returns-clause-paired
returns-clause-paired g c =
    let was = c.requires.paired ∙ index_get c.args.list.now.runs c.args.place c.take_at-run.result c.take_at-run.ensures.run in
    put_once (pair_of c.take_at-run.result) _ _ (c.take.ensures.pairs ∙ was) ∙ ap indexed (sym c.take_at-run.ensures.runs)
