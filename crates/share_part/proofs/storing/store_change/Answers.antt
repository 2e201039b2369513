use Rattle.std.proofs.Common.{◌≡◌, ◌∙◌, sym, true, false}
use Rattle.share_part.proofs.storing.store_change.Goals as goal

pub returns-then-tidies-clause-moments : goal.returns-then-tidies-clause-moments
returns-then-tidies-clause-moments g c = λ alone. absurd (let clash : true ≡ false = sym c.if-tidies.true ∙ alone in let never : ⊥ = cc in never)

pub returns-clause-moments : goal.returns-clause-moments
returns-clause-moments g c = λ alone. c.store_alone.ensures.moments

pub returns-then-tidies-clause-alone : goal.returns-then-tidies-clause-alone
returns-then-tidies-clause-alone g c = λ alone. absurd (let clash : true ≡ false = sym c.if-tidies.true ∙ alone in let never : ⊥ = cc in never)

pub returns-clause-alone : goal.returns-clause-alone
returns-clause-alone g c = λ alone. c.store_alone.ensures.alone
