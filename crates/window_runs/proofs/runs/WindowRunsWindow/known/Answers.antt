use Rattle.std.proofs.Common.{◌≡◌, ap, subst}
use Rattle.lock_index.specs.Runs.{held_of}
use Rattle.lock_index.specs.Windows.{IsRising, WindowParts}
use Rattle.lock_index.proofs.Looks.{held_rises}
use Rattle.window_runs.proofs.runs.WindowRunsWindow.known.Goals as goal

pub returns : goal.returns
returns c =
    let view : held_of c.self.inside.list.runs ≡ c.args.self.now.held = ap (λ (w : WindowParts). w.held) c.self.view_is in
    subst IsRising view (held_rises c.self.inside.list.runs c.self.invariant.canonical)
