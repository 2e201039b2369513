use Rattle.std.proofs.Common.{◌≡◌, map, take}
use Rattle.std.specs.Vec.{vec_len}
use Rattle.group_calls.specs.Members.{member_row}
use Rattle.group_calls.proofs.members.member_rows.Given as goal

abbrev pub invariant-loop-one : goal.invariant-loop-one
invariant-loop-one l = record {
  rows : l.rows.items ≡ map member_row (take l.one-index l.members);
  count : vec_len l.rows ≡ l.one-index;
}
