use Rattle.tape_merge.specs.Readiness.{IsNamed}
use Rattle.tape_merge.proofs.Readies.{gains_nothing}
use Rattle.tape_merge.proofs.Steadies.{named_as}
use Rattle.tape_merge.proofs.ready.look_on.Goals as goal

pub returns-in_default : goal.returns-in_default
returns-in_default c =
    gains_nothing c.args.tapes.now c.args.links.now c.args.counts.now (IsNamed c.args.tapes.now c.args.counts.now c.args.tape) c.args.ready.now.keys
    (λ k named may. c.in_default.ensures.none k named)

pub returns : goal.returns
returns c = named_as c.args.tapes.now c.args.links.now c.args.counts.now c.args.tape c.in-Some.link c.args.ready.now.keys c.look.new.ready.keys c.in-Some.ensures.some c.in_ok-look.ensures
