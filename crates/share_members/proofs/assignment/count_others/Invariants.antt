use Rattle.std.proofs.Common.{◌≡◌, ◌≤◌, ◌+◌, length}
use Rattle.std.specs.Cmp.Lexicographic.{nat_list_cmp_total}
use Rattle.share_members.specs.Groups.{id_cmp}
use Rattle.share_members.specs.Assignments.{subscribes}
use Rattle.share_members.proofs.Maps.{before, behind}
use Rattle.share_members.proofs.assignment.count_others.Given as goal

abbrev pub invariant-loop-other : goal.invariant-loop-other
invariant-loop-other l = record {
  before : l.before + before id_cmp nat_list_cmp_total (subscribes l.place) l.id l.other-iterator
      ≡ before id_cmp nat_list_cmp_total (subscribes l.place) l.id l.members.entries;
  behind : l.behind + behind id_cmp nat_list_cmp_total (subscribes l.place) l.id l.other-iterator
      ≡ behind id_cmp nat_list_cmp_total (subscribes l.place) l.id l.members.entries;
  few : l.before + l.behind + length l.other-iterator ≤ length l.members.entries;
}
