use Rattle.std.proofs.Common.{◌≡◌, map}
use Rattle.std.specs.List.{flat_map}
use Rattle.log_calls.specs.Produce.{shape_of, topic_entries}
use Rattle.log_calls.proofs.plan.plan_topics.Given as goal

abbrev pub invariant-loop-topic : goal.invariant-loop-topic
invariant-loop-topic l = record {
  shape : l.shape.items ≡ map shape_of l.yielded;
  left : l.left.items ≡ flat_map (topic_entries l.conf.topics l.refusal) l.yielded;
}
