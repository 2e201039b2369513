use Rattle.std.proofs.Common.{◌≡◌, ◌∙◌, ◌+◌, ◌++◌, ap, sym, suc, arith, length, List, take, drop}
use Rattle.std.specs.List.{insert}
use Rattle.share_model.specs.declared.run.Run.{Run}
use Rattle.offset_runs.proofs.Pushes.{pushed}
use Rattle.offset_runs.proofs.Shifts.{insert_first}
use Rattle.offset_runs.proofs.shift.+replace.Goals as goal

pub returns-clause-runs : goal.returns-clause-runs
returns-clause-runs t c =
    let xs = c.args.runs.now.items in
    let first = c.in-Some.first.now in
    let rest = c.in-Some.rest.now in
    let some : length c.args.pieces.now ≡ suc (length rest) = ap (λ (l : List Run). length l) c.in-Some.ensures.cases.0 in
    let put : c.insert.new.self.items ≡ insert xs c.args.start first =
    pushed c.insert.result _ _ _ (c.insert.ensures.succeeds (omega (arith, some))) c.insert.ensures.items in
    c.replace-2.ensures.runs
    ∙ ap (λ (l : List Run). take (c.args.start + 1) l ++ (rest ++ drop (c.args.end + 1) l)) put
    ∙ insert_first xs rest first c.args.start c.args.end (omega arith) (omega arith)
    ∙ ap (λ (l : List Run). take c.args.start xs ++ (l ++ drop c.args.end xs)) (sym c.in-Some.ensures.cases.0)
