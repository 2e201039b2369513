use Rattle.std.proofs.Common.{◌≡◌, ◌+◌, ◌++◌, length}
use Rattle.std.specs.Vec.{vec_len}
use Rattle.log_calls.specs.Delete.{results_by_topic}
use Rattle.log_calls.proofs.delete.group_results.Given as goal

abbrev pub invariant-loop-one : goal.invariant-loop-one
invariant-loop-one l = record {
  topics : l.topics.items ++ results_by_topic l.one-iterator.rest.items l.rows.items ≡ results_by_topic l.fn.shape l.fn.rows.items;
  count : vec_len l.topics + length l.one-iterator.rest.items ≡ length l.fn.shape;
}
