use Rattle.std.proofs.Common.{◌≡◌, ◌||◌, List, subst}
use Rattle.std.specs.BTreeSet.{contains}
use Rattle.msgs_group.specs.declared.heartbeat_reply.AssignedTopic.{AssignedTopic}
use Rattle.share_client.specs.Grants.{Named}
use Rattle.share_client.specs.Partitions.{is_named, names_in}
use Rattle.share_client.specs.Spans.{name_cmp}
use Rattle.share_client.proofs.Outsiding.{joined_on}
use Rattle.share_client.proofs.partitions.names_of.Goals as goal

pub loop-topic-preserved : goal.loop-topic-preserved
loop-topic-preserved c =
    joined_on c.in-Some.topic.now c.in-Some.others.now c.loop-topic.names c.note_topic.new.names (λ q. is_named (names_in c.args.topics.now) q) c.in_ok-note_topic.ensures
    (subst (λ (l : List AssignedTopic). (q : Named) → (is_named (names_in l) q || contains name_cmp c.loop-topic.names q) ≡ is_named (names_in c.args.topics.now) q)
    c.in-Some.ensures.cases.0 c.loop-topic.invariant)
