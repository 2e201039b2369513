use Rattle.std.proofs.Common.{arith}
use Rattle.share_calls.proofs.Placing.{placed_group}
use Rattle.share_calls.proofs.ack_entries.place_all.Goals as goal

pub loop-topic-preserved : goal.loop-topic-preserved
loop-topic-preserved c =
    placed_group c.args.conf.now.topics c.args.topics.now c.loop-topic.topic-index c.topic-item.result _ _ _ _ _ (omega arith) c.topic-item.is
    c.in_ok-place_topic.ensures.left c.in_ok-place_topic.ensures.steps c.loop-topic.invariant
