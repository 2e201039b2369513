use Rattle.std.proofs.Common.{◌≡◌, ◌++◌, map}
use Rattle.share_calls.specs.Visits.{untold}
use Rattle.share_calls.proofs.visiting.push_untold.Given as goal

abbrev pub invariant-loop-step : goal.invariant-loop-step
invariant-loop-step g l = l.left.items ≡ l.fn.left.items ++ map untold l.yielded
