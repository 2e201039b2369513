use Rattle.std.proofs.Common.{◌≡◌, subst, sym}
use Rattle.tape_merge.specs.declared.moves.Move.TheVariants.{Steps}
use Rattle.tape_merge.specs.Readiness.{Gains, IsNamed, Touched}
use Rattle.tape_merge.proofs.Readies.{gains_both}
use Rattle.tape_merge.proofs.ready.look_behind_step.Goals as goal

pub returns-in-None : goal.returns-in-None
returns-in-None c =
    subst (λ t. Gains (Touched c.args.tapes.now c.args.counts.now (Steps c.args.link t)) c.args.tapes.now c.args.links.now c.args.counts.now c.args.ready.now.keys c.look.new.ready.keys)
    (sym c.in-None.is) c.in_ok-look.ensures

pub returns-in-Some : goal.returns-in-Some
returns-in-Some c =
    subst (λ t. Gains (Touched c.args.tapes.now c.args.counts.now (Steps c.args.link t)) c.args.tapes.now c.args.links.now c.args.counts.now c.args.ready.now.keys c.look_on.new.ready.keys)
    (sym c.in-Some.is)
    (gains_both c.args.tapes.now c.args.links.now c.args.counts.now (λ k. k ≡ c.args.link) (IsNamed c.args.tapes.now c.args.counts.now c.in-Some.tape)
    c.args.ready.now.keys c.look.new.ready.keys c.look_on.new.ready.keys c.in_ok-look.ensures c.in_ok-look_on-in-Some.ensures)
