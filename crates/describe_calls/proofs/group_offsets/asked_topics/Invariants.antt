use Rattle.std.proofs.Common.{◌≡◌, map}
use Rattle.describe_calls.specs.GroupOffsets.{asked_topic}
use Rattle.describe_calls.proofs.group_offsets.asked_topics.Given as goal

abbrev pub invariant-loop-topic : goal.invariant-loop-topic
invariant-loop-topic l = l.asked.items ≡ map (asked_topic l.conf.topics) l.yielded
