use Rattle.std.proofs.Common.{◌≤◌, length, arith, sym, subst}
use Rattle.topic_conf.proofs.Lists.{list_few}
use Rattle.describe_calls.proofs.group_offsets.all_topics.Goals as goal

pub new-requires : goal.new-requires
new-requires c =
    let topics = c.args.conf.now.topics in
    let few : length c.topics-topics.result.now ≤ 64 =
    subst (λ l. length l ≤ 64) (sym c.topics-topics.ensures.same) (list_few topics c.topics-topics.ensures.list) in
    record { few = omega (arith, few, c.loop-topic.auto.topic-index-end, c.loop-topic.invariant.count) }
