use Rattle.std.proofs.Common.{◌≡◌, map}
use Rattle.std.specs.List.{flat_map}
use Rattle.topic_conf.specs.Topics.{partitions}
use Rattle.describe_calls.specs.GroupOffsets.{asked_offsets, entries_asked}
use Rattle.describe_calls.proofs.group_offsets.plan_group_offsets.Given as goal

abbrev pub invariant-loop-one : goal.invariant-loop-one
invariant-loop-one l = record {
  groups : l.groups.items ≡ map (asked_offsets l.conf.topics (partitions l.conf.topics)) l.yielded;
  left : l.left.items ≡ flat_map (entries_asked (partitions l.conf.topics)) l.yielded;
}
