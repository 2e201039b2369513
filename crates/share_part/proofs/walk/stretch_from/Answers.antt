use Rattle.std.proofs.Common.{arith}
use Rattle.share_part.proofs.walk.stretch_from.Goals as goal

pub returns-in_default : goal.returns-in_default
returns-in_default g c = c.stretch_stored.ensures (g.W.Window.held c.args.window.now) (λ o lo hi. c.in_default.ensures o lo)

pub returns-then-slot-run : goal.returns-then-slot-run
returns-then-slot-run g c = c.stretch_stored-then-slot-run.ensures (g.W.Window.held c.args.window.now)
    (λ o lo hi. c.in-Some.ensures.free o lo (omega (arith, hi, c.if-slot-run.true)))
