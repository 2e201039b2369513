use Rattle.std.proofs.Common.{◌≡◌, subst, ℕ, None}
use Rattle.share_part.specs.Acting.{IsFirstNamed}
use Rattle.share_part.specs.Named.{named_from}
use Rattle.share_part.proofs.Verdicts.{first_is, none_named}
use Rattle.share_part.proofs.acks.first_named.Goals as goal

pub returns-in-Some-clause-some : goal.returns-in-Some-clause-some
returns-in-Some-clause-some g c = subst (λ (n : ℕ). IsFirstNamed (named_from n c.args.batches.now) c.in-Some.piece.first) c.start.ensures.value
    (first_is c.start.result c.args.batches.now c.new-pieces.result c.new-pieces.ensures c.in-Some.piece _ c.in-Some.ensures.some)

pub returns-in-None-clause-none : goal.returns-in-None-clause-none
returns-in-None-clause-none g c = λ offset. subst (λ (n : ℕ). named_from n c.args.batches.now offset ≡ None) c.start.ensures.value
    (none_named c.start.result c.args.batches.now c.new-pieces.result c.new-pieces.ensures c.in-None.ensures.none offset)
