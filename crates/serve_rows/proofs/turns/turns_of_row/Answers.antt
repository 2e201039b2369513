use Rattle.std.proofs.Common.{rules, ◌≡◌, ◌++◌, ◌∷◌, [], subst}
use Rattle.std.specs.List.{AllByRecursion}
use Rattle.broker_locks.specs.Rows.{IsAlone}
use Rattle.serve_rows.proofs.Passes.{row_of}
use Rattle.serve_rows.proofs.turns.turns_of_row.Goals as goal

pub turns_behind-requires-clause-of : goal.turns_behind-requires-clause-of
turns_behind-requires-clause-of g c =
    let is : c.args.rows.items ≡ c.pop.new.self.items ++ c.in-Some.passes ∷ [] = search rules in
    row_of c.args.shared.now c.pop.new.self.items c.in-Some.passes
    (subst (λ l. AllByRecursion (IsAlone c.args.shared.now) l) is c.requires.all)
