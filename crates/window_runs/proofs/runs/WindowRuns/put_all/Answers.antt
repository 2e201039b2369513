use Rattle.std.proofs.Common.{◌≡◌, ◌-◌, ap, arith}
use Rattle.lock_index.specs.Windows.{WindowParts}
use Rattle.window_runs.proofs.runs.WindowRuns.put_all.Goals as goal

pub returns-then-behind-from-clause-spared : goal.returns-then-behind-from-clause-spared
returns-then-behind-from-clause-spared c = λ le.
    let view : c.self.inside.room - c.self.inside.count ≡ c.args.self.now.spare = ap (λ (w : WindowParts). w.spare) c.self.view_is in
    absurd (omega (arith, le, view, c.self.ranges.1.1.1.0.1, c.if-behind-from.true))
