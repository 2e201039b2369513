use Rattle.std.proofs.Common.{◌≡◌, length}
use Rattle.call_fold.specs.Going.{stage_of}
use Rattle.call_fold.proofs.call.go_on.Given as goal

abbrev pub invariant-loop-entry : goal.invariant-loop-entry
invariant-loop-entry g l =
    stage_of g.C.Call.acts l.call l.left.items l.rows.items ≡ stage_of g.C.Call.acts l.fn.call l.fn.left.items l.fn.rows.items

abbrev pub decreases-loop-entry : goal.decreases-loop-entry
decreases-loop-entry g l = length l.left.items
