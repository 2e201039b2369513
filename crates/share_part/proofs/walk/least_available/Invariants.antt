use Rattle.std.proofs.Common.{◌≡◌, ◌≤◌}
use Rattle.share_part.specs.Offering.{least_available}
use Rattle.share_part.specs.Tables.{Table}
use Rattle.share_part.proofs.Offered.{first_free}
use Rattle.share_part.proofs.walk.least_available.Given as goal

abbrev pub invariant-loop-left : goal.invariant-loop-left
invariant-loop-left g l =
    let table : Table = record { start = l.start; rows = l.rows.list; held = g.W.Window.held l.window } in
    (first_free l.log.batches table l.left l.from ≡ least_available l.log.batches table) × (l.log.start ≤ l.from)

abbrev pub decreases-loop-left : goal.decreases-loop-left
decreases-loop-left g l = l.left
