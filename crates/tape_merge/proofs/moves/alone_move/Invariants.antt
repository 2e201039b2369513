use Rattle.std.proofs.Common.{◌<◌, ℕ}
use Rattle.tape_merge.specs.Moves.{GoesAlone}
use Rattle.tape_merge.proofs.moves.alone_move.Given as goal

abbrev pub invariant-loop-tape : goal.invariant-loop-tape
invariant-loop-tape l = (other : ℕ) → other < l.tape → GoesAlone l.tapes l.counts other → ⊥
