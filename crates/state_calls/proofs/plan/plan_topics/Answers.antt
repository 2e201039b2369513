use Rattle.state_calls.specs.States.{shape_of, topic_entries}
use Rattle.state_calls.proofs.Steps.{map_step, flat_step}
use Rattle.state_calls.proofs.plan.plan_topics.Goals as goal

pub loop-topic-preserved : goal.loop-topic-preserved
loop-topic-preserved g c =
    let topic = c.in-Some.topic in
    let before = c.loop-topic.yielded in
    let entries = topic_entries g.S.StateCall.means c.args.conf.now.topics c.args.fits in
    record {
      shape = map_step shape_of before topic c.loop-topic.shape.items c.push.new.self.items c.in_ok-one.one c.in_ok-push.ensures.items c.in_ok-one.ensures.shape c.loop-topic.invariant.shape;
      left = flat_step entries before topic c.loop-topic.left.items c.plan_topic.new.left.items c.in_ok-one.ensures.left c.loop-topic.invariant.left;
    }
