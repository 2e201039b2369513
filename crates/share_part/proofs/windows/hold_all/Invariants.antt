use Rattle.share_part.proofs.Holdings.{HoldsGrants}
use Rattle.share_part.proofs.windows.hold_all.Given as goal

abbrev pub invariant-loop-grant : goal.invariant-loop-grant
invariant-loop-grant g l = HoldsGrants g.W.Window.held g.W.Window.spare l.member l.end l.grants l.fn.window l.grant-index l.window
