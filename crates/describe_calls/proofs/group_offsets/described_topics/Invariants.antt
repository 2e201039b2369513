use Rattle.std.proofs.Common.{◌≡◌, map, take}
use Rattle.std.specs.Vec.{vec_len}
use Rattle.describe_calls.specs.GroupOffsets.{described_topic}
use Rattle.describe_calls.proofs.group_offsets.described_topics.Given as goal

abbrev pub invariant-loop-topic : goal.invariant-loop-topic
invariant-loop-topic l = record {
  told : l.told.items ≡ map (described_topic l.rows) (take l.topic-index l.topics);
  count : vec_len l.told ≡ l.topic-index;
}
