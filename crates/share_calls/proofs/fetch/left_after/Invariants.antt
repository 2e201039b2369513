use Rattle.std.proofs.Common.{◌≡◌, ◌-◌, drop}
use Rattle.share_calls.specs.Fetch.{granted}
use Rattle.share_calls.proofs.fetch.left_after.Given as goal

abbrev pub invariant-loop-grant : goal.invariant-loop-grant
invariant-loop-grant l = l.left - granted (drop l.grant-index l.grants) ≡ l.fn.records - granted l.fn.grants
