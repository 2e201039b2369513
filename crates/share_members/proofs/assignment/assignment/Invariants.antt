use Rattle.std.proofs.Common.{◌≡◌, ◌≤◌, ◌+◌, ◌++◌, length, vec_len}
use Rattle.share_members.specs.Topics.{HaveFewParts}
use Rattle.share_members.specs.declared.member.Member.{Member as Kept}
use Rattle.share_members.specs.Groups.{with_member}
use Rattle.share_members.specs.Assignments.{assigned}
use Rattle.share_members.proofs.assignment.assignment.Given as goal

abbrev pub invariant-loop-topic : goal.invariant-loop-topic
invariant-loop-topic l = record {
  so_far : (member : Kept) → member.topics ≡ l.subscription →
      l.assigned.items ++ assigned (with_member l.id member l.members.entries) l.id l.subscription l.place l.rest
      ≡ assigned (with_member l.id member l.members.entries) l.id l.subscription 0 l.topics;
  parts : HaveFewParts l.rest;
  place : l.place + length l.rest ≡ length l.topics;
  few : vec_len l.assigned ≤ l.place;
}

abbrev pub decreases-loop-topic : goal.decreases-loop-topic
decreases-loop-topic l = length l.rest
