use Rattle.std.proofs.Common.{◌≡◌, ◌≤◌, pos, map, vec_len}
use Rattle.std.specs.List.{filter, range_with_len}
use Rattle.share_members.specs.Assignments.{owns}
use Rattle.share_members.proofs.assignment.share.Given as goal

abbrev pub invariant-loop-partition : goal.invariant-loop-partition
invariant-loop-partition l = record {
  so_far : l.list.items ≡ map pos (filter (owns l.parts l.subscribers l.number) (range_with_len 0 l.partition));
  few : vec_len l.list ≤ l.partition;
}
