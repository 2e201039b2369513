use Rattle.std.proofs.Common.{◌≡◌, ◌<◌, ℕ, Some}
use Rattle.tape_merge.specs.Matching.{shard_of}
use Rattle.tape_merge.proofs.tapes.tape_of.Given as goal

abbrev pub invariant-loop-tape : goal.invariant-loop-tape
invariant-loop-tape l = (tape : ℕ) → tape < l.tape → shard_of l.tapes tape ≡ Some l.shard → ⊥
