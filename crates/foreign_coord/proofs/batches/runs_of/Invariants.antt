use Rattle.std.proofs.Common.{◌≡◌, drop}
use Rattle.share_model.specs.ForeignRules.{runs_of}
use Rattle.foreign_coord.proofs.Batching.{with_front}
use Rattle.foreign_coord.proofs.batches.runs_of.Given as goal

abbrev pub invariant-loop-batch : goal.invariant-loop-batch
invariant-loop-batch l = with_front l.runs.items (runs_of (drop l.batch-index l.batches)) ≡ runs_of l.batches
