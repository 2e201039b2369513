use Rattle.std.proofs.Common.{◌<◌, ◌≢◌, ℕ}
use Rattle.edge_io.specs.Names.{number_word}
use Rattle.edge_io.proofs.topic.number_of.Given as goal

abbrev pub invariant-loop-number : goal.invariant-loop-number
invariant-loop-number l = (n : ℕ) → n < l.number → l.fn.word ≢ number_word n
