use Rattle.std.proofs.Common.{arith}
use Rattle.share_session.proofs.Lists.{fold_groups}
use Rattle.share_session.proofs.wanted.wanted_in.Goals as goal

pub loop-topic-preserved : goal.loop-topic-preserved
loop-topic-preserved c =
    fold_groups _ _ _ c.args.topics.now c.loop-topic.topic-index c.topic-item.result _ _ _ (omega arith) c.topic-item.is c.in_ok-want_topic.ensures c.loop-topic.invariant
