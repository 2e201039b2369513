use Rattle.std.proofs.Common.{subst}
use Rattle.tape_merge.specs.Outcomes.{IsOutcome}
use Rattle.tape_merge.proofs.Results.{tangled_as, unmatched_as}
use Rattle.tape_merge.proofs.merging.merge.Goals as goal

pub returns-in-Session-clause-merged : goal.returns-in-Session-clause-merged
returns-in-Session-clause-merged c = (subst (λ o. IsOutcome c.args.conf.now.topics c.args.tapes.now c.args.links.now o) c.in-Session.is c.in-Ok.ensures).0

pub returns-in-Session-clause-matched : goal.returns-in-Session-clause-matched
returns-in-Session-clause-matched c = (subst (λ o. IsOutcome c.args.conf.now.topics c.args.tapes.now c.args.links.now o) c.in-Session.is c.in-Ok.ensures).1

pub returns-in-Session-clause-untangled : goal.returns-in-Session-clause-untangled
returns-in-Session-clause-untangled c = (subst (λ o. IsOutcome c.args.conf.now.topics c.args.tapes.now c.args.links.now o) c.in-Session.is c.in-Ok.ensures).2

pub returns-in-Strange-clause-unmatched : goal.returns-in-Strange-clause-unmatched
returns-in-Strange-clause-unmatched c =
    unmatched_as c.args.tapes.now c.args.links.now c.in-Strange.place (subst (λ o. IsOutcome c.args.conf.now.topics c.args.tapes.now c.args.links.now o) c.in-Strange.is c.in-Ok.ensures)

pub returns-in-Knotted-clause-tangled : goal.returns-in-Knotted-clause-tangled
returns-in-Knotted-clause-tangled c =
    tangled_as c.args.tapes.now c.args.links.now c.in-Knotted.place (subst (λ o. IsOutcome c.args.conf.now.topics c.args.tapes.now c.args.links.now o) c.in-Knotted.is c.in-Ok.ensures)
