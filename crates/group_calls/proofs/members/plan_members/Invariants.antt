use Rattle.std.proofs.Common.{◌≡◌, map}
use Rattle.std.specs.List.{flat_map}
use Rattle.topic_conf.specs.Topics.{partitions}
use Rattle.describe_calls.specs.Groups.{group_entries}
use Rattle.describe_calls.specs.Groups.{group_shape}
use Rattle.group_calls.proofs.members.plan_members.Given as goal

abbrev pub invariant-loop-id : goal.invariant-loop-id
invariant-loop-id l = record {
  shape : l.shape.items ≡ map (group_shape (partitions l.conf.topics)) l.yielded;
  left : l.left.items ≡ flat_map (group_entries (partitions l.conf.topics)) l.yielded;
}
