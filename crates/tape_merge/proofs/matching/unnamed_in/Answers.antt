use Rattle.std.proofs.Common.{IsSome, subst, sym, arith}
use Rattle.tape_merge.proofs.Seeing.{named_more}
use Rattle.tape_merge.proofs.matching.unnamed_in.Goals as goal

pub loop-at-init : goal.loop-at-init
loop-at-init c = λ step lt some. absurd (omega (arith, lt))

pub loop-at-preserved : goal.loop-at-preserved
loop-at-preserved c =
    named_more c.args.steps.now c.args.named.now.keys c.args.link c.loop-at.at c.loop-at.invariant
    (λ some. c.is_unnamed-lacks.ensures.no c.if-lacks.false (subst (λ o. IsSome o) (sym c.shard_in-shard.ensures) some))

pub returns-then-lacks-clause-some : goal.returns-then-lacks-clause-some
returns-then-lacks-clause-some c =
    let h = c.is_unnamed-lacks.ensures.yes c.if-lacks.true in
    (subst (λ o. IsSome o) c.shard_in-shard.ensures h.0, h.1)
