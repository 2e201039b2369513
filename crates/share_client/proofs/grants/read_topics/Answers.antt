use Rattle.std.proofs.Common.{List, subst}
use Rattle.std.specs.Prelude.{flat_map}
use Rattle.msgs_share.specs.declared.share_topic.ShareTopic.{ShareTopic}
use Rattle.share_client.specs.declared.fetched.LocatedPartition.{LocatedPartition}
use Rattle.share_client.specs.declared.located.Located.{Located}
use Rattle.share_client.specs.Grants.{entries_of}
use Rattle.share_client.proofs.Delivering.{HandsOn, front_sound, hands_all, hands_on, none_left}
use Rattle.share_client.proofs.grants.read_topics.Goals as goal

pub read_topic-requires : goal.read_topic-requires
read_topic-requires c =
    front_sound c.args.handout.now (flat_map entries_of c.args.topics.now) c.loop-topic.handout (entries_of c.in-Some.topic.now) (flat_map entries_of c.in-Some.others.now)
    (subst (λ (l : List (ShareTopic (Located LocatedPartition))). HandsOn c.args.handout.now (flat_map entries_of c.args.topics.now) c.loop-topic.handout (flat_map entries_of l))
    c.in-Some.ensures.cases.0 c.loop-topic.invariant)

pub loop-topic-preserved : goal.loop-topic-preserved
loop-topic-preserved c =
    hands_on c.args.handout.now (flat_map entries_of c.args.topics.now) c.loop-topic.handout (entries_of c.in-Some.topic.now) (flat_map entries_of c.in-Some.others.now)
    (subst (λ (l : List (ShareTopic (Located LocatedPartition))). HandsOn c.args.handout.now (flat_map entries_of c.args.topics.now) c.loop-topic.handout (flat_map entries_of l))
    c.in-Some.ensures.cases.0 c.loop-topic.invariant)
    c.read_topic.new.handout c.in_ok-read_topic.ensures

pub returns : goal.returns
returns c =
    hands_all c.args.handout.now (flat_map entries_of c.args.topics.now) c.loop-topic.handout
    (subst (λ (l : List (ShareTopic (Located LocatedPartition))). HandsOn c.args.handout.now (flat_map entries_of c.args.topics.now) c.loop-topic.handout (flat_map entries_of l))
    (none_left c.loop-topic.rest.now c.in_default.ensures.cases) c.loop-topic.invariant)
