use Rattle.std.proofs.Common.{◌≡◌, map}
use Rattle.std.specs.List.{flat_map}
use Rattle.state_calls.specs.States.{shape_of, topic_entries}
use Rattle.state_calls.proofs.plan.plan_topics.Given as goal

abbrev pub invariant-loop-topic : goal.invariant-loop-topic
invariant-loop-topic g l = record {
  shape : l.shape.items ≡ map shape_of l.yielded;
  left : l.left.items ≡ flat_map (topic_entries g.S.StateCall.means l.conf.topics l.fits) l.yielded;
}
