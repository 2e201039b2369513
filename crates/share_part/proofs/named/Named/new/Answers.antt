use Rattle.std.proofs.Common.{subst}
use Rattle.share_part.specs.Named.{AreNamed}
use Rattle.share_part.proofs.Naming.{are_named}
use Rattle.share_part.proofs.named.Named.new.Goals as goal

pub returns : goal.returns
returns c = subst (AreNamed c.args.start c.args.batches.now) c.first_from-first.ensures.pieces
    (are_named c.args.start c.args.batches.now c.new-rest.result c.new-rest.ensures.pieces)
