use Rattle.std.proofs.Common.{◌≡◌, ◌++◌, take}
use Rattle.session_script.specs.Output.{output_of}
use Rattle.session_script.proofs.telling.put_outcomes.Given as goal

abbrev pub invariant-loop-outcome : goal.invariant-loop-outcome
invariant-loop-outcome l = l.text ≡ l.fn.text ++ output_of l.conf.topics (take l.outcome-index l.outcomes)
