use Rattle.std.proofs.Common.{◌≡◌, ℕ, List, ap, subst}
use Rattle.share_model.specs.Held.{Held, IsLeastDue}
use Rattle.lock_index.specs.Locks.{IsLeastFirst}
use Rattle.lock_index.specs.Runs.{held_of}
use Rattle.lock_index.specs.Windows.{WindowParts}
use Rattle.window_runs.proofs.Dues.{least_due}
use Rattle.window_runs.proofs.runs.WindowRunsWindow.due.Goals as goal

pub returns : goal.returns
returns c =
    let runs = c.self.inside.list.runs in
    let view : held_of runs ≡ c.args.self.now.held = ap (λ (w : WindowParts). w.held) c.self.view_is in
    subst (λ (h : Held). IsLeastDue h c.args.now c.due.result) view (least_due runs c.args.now c.due.result c.self.invariant.canonical
    (subst (λ (l : List (ℕ × ℕ)). IsLeastFirst l c.args.now c.due.result) c.self.invariant.paired c.due.ensures))
