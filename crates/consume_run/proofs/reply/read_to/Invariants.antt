use Rattle.std.proofs.Common.{◌≡◌, ◌≤◌, ◌++◌, ◌-◌, List, ℕ, vec_len}
use Rattle.consume_run.proofs.reply.read_to.Given as goal

abbrev pub invariant-loop-link : goal.invariant-loop-link
invariant-loop-link g l = ((more : List ℕ) × (l.bytes.items ≡ l.fn.bytes.items ++ more)) × (vec_len l.bytes ≤ l.end)

abbrev pub decreases-loop-link : goal.decreases-loop-link
decreases-loop-link g l = l.end - vec_len l.bytes
