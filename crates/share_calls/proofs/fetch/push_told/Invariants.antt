use Rattle.std.proofs.Common.{◌≡◌, ◌++◌, map}
use Rattle.share_calls.specs.Fetch.{told}
use Rattle.share_calls.proofs.fetch.push_told.Given as goal

abbrev pub invariant-loop-step : goal.invariant-loop-step
invariant-loop-step l = l.left.items ≡ l.fn.left.items ++ map (told l.conf.topics) l.yielded
