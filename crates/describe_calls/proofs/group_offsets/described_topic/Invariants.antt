use Rattle.std.proofs.Common.{◌≡◌, map, take}
use Rattle.std.specs.Vec.{vec_len}
use Rattle.describe_calls.specs.GroupOffsets.{described_partition}
use Rattle.describe_calls.proofs.group_offsets.described_topic.Given as goal

abbrev pub invariant-loop-one : goal.invariant-loop-one
invariant-loop-one l = record {
  partitions : l.partitions.items ≡ map (described_partition l.rows) (take l.one-index l.asked);
  count : vec_len l.partitions ≡ l.one-index;
}
