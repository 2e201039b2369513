use Rattle.std.proofs.Common.{◌≡◌, ◌+◌, ◌++◌, length}
use Rattle.std.specs.Vec.{vec_len}
use Rattle.share_calls.specs.Acknowledge.{rows_by_topic}
use Rattle.share_calls.proofs.ack_rows.group_rows.Given as goal

abbrev pub invariant-loop-one : goal.invariant-loop-one
invariant-loop-one l = record {
  topics : l.topics.items ++ rows_by_topic l.one-iterator.rest.items l.rows.items ≡ rows_by_topic l.fn.shape l.fn.rows.items;
  count : vec_len l.topics + length l.one-iterator.rest.items ≡ length l.fn.shape;
}
