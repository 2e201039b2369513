use Rattle.std.proofs.Common.{ap, subst, sym}
use Rattle.share_model.specs.Held.{Held}
use Rattle.share_part.specs.Settling.{AreBelow}
use Rattle.share_part.specs.Shards.{held_of}
use Rattle.share_part.proofs.release.end_released.Goals as goal

pub end_in_ledger-requires-clause-below : goal.end_in_ledger-requires-clause-below
end_in_ledger-requires-clause-below g c = subst (λ (h : Held). AreBelow h) (sym (ap (held_of g.W.Window.held) c.in-Some.ensures.value)) c.requires.below
