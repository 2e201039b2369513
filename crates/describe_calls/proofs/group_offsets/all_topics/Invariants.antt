use Rattle.std.proofs.Common.{◌≡◌, map, take}
use Rattle.std.specs.Vec.{vec_len}
use Rattle.describe_calls.specs.GroupOffsets.{whole_topic}
use Rattle.describe_calls.proofs.group_offsets.all_topics.Given as goal

abbrev pub invariant-loop-topic : goal.invariant-loop-topic
invariant-loop-topic l = record {
  all : l.all.items ≡ map (whole_topic l.conf.topics) (take l.topic-index l.topics);
  count : vec_len l.all ≡ l.topic-index;
}
