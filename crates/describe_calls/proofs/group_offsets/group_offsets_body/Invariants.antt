use Rattle.std.proofs.Common.{◌≡◌, ◌+◌, ◌++◌, length}
use Rattle.std.specs.Vec.{vec_len}
use Rattle.describe_calls.specs.GroupOffsets.{offsets_by_rows}
use Rattle.describe_calls.proofs.group_offsets.group_offsets_body.Given as goal

abbrev pub invariant-loop-one : goal.invariant-loop-one
invariant-loop-one l = record {
  groups : l.groups.items ++ offsets_by_rows l.all l.one-iterator.rest.items l.rows.items ≡ offsets_by_rows l.all l.fn.asked l.fn.rows.items;
  count : vec_len l.groups + length l.one-iterator.rest.items ≡ length l.fn.asked;
}
