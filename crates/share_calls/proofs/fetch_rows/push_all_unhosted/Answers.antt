use Rattle.std.proofs.Common.{arith}
use Rattle.share_calls.proofs.Lists.{pushed_group}
use Rattle.share_calls.proofs.fetch_rows.push_all_unhosted.Goals as goal

pub loop-topic-preserved : goal.loop-topic-preserved
loop-topic-preserved c =
    pushed_group _ _ _ c.args.topics.now c.loop-topic.topic-index c.topic-item.result _ _ _ (omega arith) c.topic-item.is c.in_ok-push_unhosted.ensures c.loop-topic.invariant
