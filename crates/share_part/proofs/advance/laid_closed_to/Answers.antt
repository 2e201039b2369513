use Rattle.std.proofs.Common.{◌≡◌, ◌∙◌, ◌<◌, ap, arith, Option, Bool, None, Some, false}
use Rattle.std.specs.Prelude.{nat_le, if◌then◌else◌}
use Rattle.std.specs.Option.{option_or}
use Rattle.std.proofs.lemmas.Bool.Decides.{nat_tests}
use Rattle.share_model.specs.Runs.{row_at, row_of}
use Rattle.share_model.specs.declared.row.Row.{Row}
use Rattle.share_part.specs.Settling.{is_closed}
use Rattle.share_part.proofs.advance.laid_closed_to.Goals as goal

pub returns-clause-closed : goal.returns-clause-closed
returns-clause-closed c = λ other from to.
    let below : other < c.in-Some.run'.first = omega (arith, to, c.min.ensures, c.if-run-offset.false) in
    let test : nat_le c.in-Some.run'.first other ≡ false = grind (arith, nat_tests) in
    let none : row_at c.args.rows.now other ≡ None = c.in-Some.ensures.some other from (omega (arith, below, c.in-Some.ensures.order))
    ∙ ap (λ (b : Bool). if b then Some (row_of c.in-Some.run') else None) test in
    ap (λ (r : Option Row). is_closed (option_or r (row_at c.args.stored.now other))) none
    ∙ c.in-Some-closed_to.ensures.closed other from (omega (arith, to, c.min.ensures))
