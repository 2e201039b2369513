use Rattle.std.proofs.Common.{◌≡◌, ◌+◌, ◌++◌, length}
use Rattle.std.specs.Vec.{vec_len}
use Rattle.group_calls.specs.Members.{groups_by_rows}
use Rattle.group_calls.proofs.members.groups_by_rows.Given as goal

abbrev pub invariant-loop-one : goal.invariant-loop-one
invariant-loop-one l = record {
  groups : l.groups.items ++ groups_by_rows l.one-iterator.rest.items l.rows.items ≡ groups_by_rows l.fn.shape l.fn.rows.items;
  count : vec_len l.groups + length l.one-iterator.rest.items ≡ length l.fn.shape;
}
