use Rattle.std.proofs.Common.{◌≡◌, ◌+◌, ◌++◌, length}
use Rattle.std.specs.Vec.{vec_len}
use Rattle.describe_calls.specs.Offsets.{offsets_by_topic}
use Rattle.describe_calls.proofs.offsets.group_rows.Given as goal

abbrev pub invariant-loop-one : goal.invariant-loop-one
invariant-loop-one l = record {
  topics : l.topics.items ++ offsets_by_topic l.one-iterator.rest.items l.rows.items ≡ offsets_by_topic l.fn.shape l.fn.rows.items;
  count : vec_len l.topics + length l.one-iterator.rest.items ≡ length l.fn.shape;
}
