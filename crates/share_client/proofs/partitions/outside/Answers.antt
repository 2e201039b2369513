use Rattle.std.proofs.Common.{◌≡◌, ◌++◌, List, sym, subst}
use Rattle.std.specs.Prelude.{flat_map}
use Rattle.msgs_group.specs.declared.heartbeat_reply.AssignedTopic.{AssignedTopic}
use Rattle.share_client.specs.Partitions.{names_in, topic_outside}
use Rattle.share_client.proofs.Outsiding.{outside_on}
use Rattle.share_client.proofs.partitions.outside.Goals as goal

pub loop-topic-preserved : goal.loop-topic-preserved
loop-topic-preserved c =
    let names = names_in c.args.others.now in
    let all = flat_map (topic_outside names) c.args.topics.now in
    subst (λ (l : List AssignedTopic). l ++ flat_map (topic_outside names) c.in-Some.behind.now ≡ all) (sym c.in_ok-put_topic.ensures)
    (outside_on names c.in-Some.topic.now c.in-Some.behind.now c.loop-topic.found.items all c.in_ok-partitions.partitions.items
    (c.in_ok-partitions.ensures names c.in_ok-names.ensures)
    (subst (λ (l : List AssignedTopic). c.loop-topic.found.items ++ flat_map (topic_outside names) l ≡ all) c.in-Some.ensures.cases.0 c.loop-topic.invariant))
