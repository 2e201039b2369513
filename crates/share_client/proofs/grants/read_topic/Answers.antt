use Rattle.std.proofs.Common.{[], ◌∷◌, List, map, subst, sym}
use Rattle.share_client.specs.declared.fetched.LocatedPartition.{LocatedPartition}
use Rattle.share_client.specs.declared.located.Located.{Located}
use Rattle.share_client.specs.Grants.{entries_of}
use Rattle.share_client.proofs.Delivering.{HandsOn, hands_all, hands_from, hands_on, none_left}
use Rattle.share_client.proofs.grants.read_topic.Goals as goal

pub loop-located-init : goal.loop-located-init
loop-located-init c =
    subst (λ (l : List (Located LocatedPartition)). HandsOn c.args.handout.now (entries_of c.args.topic.now) c.args.handout.now (map (λ p. (c.args.topic.now.topic_id, p)) l))
    (sym c.as_slice-rest.ensures.items) (hands_from c.args.handout.now (entries_of c.args.topic.now) c.requires)

pub loop-located-preserved : goal.loop-located-preserved
loop-located-preserved c =
    hands_on c.args.handout.now (entries_of c.args.topic.now) c.loop-located.handout ((c.args.topic.now.topic_id, c.in-Some.located.now) ∷ [])
    (map (λ p. (c.args.topic.now.topic_id, p)) c.in-Some.others.now)
    (subst (λ (l : List (Located LocatedPartition)). HandsOn c.args.handout.now (entries_of c.args.topic.now) c.loop-located.handout (map (λ p. (c.args.topic.now.topic_id, p)) l))
    c.in-Some.ensures.cases.0 c.loop-located.invariant)
    c.read_entry.new.handout c.in_ok-read_entry.ensures

pub returns : goal.returns
returns c =
    hands_all c.args.handout.now (entries_of c.args.topic.now) c.loop-located.handout
    (subst (λ (l : List (Located LocatedPartition)). HandsOn c.args.handout.now (entries_of c.args.topic.now) c.loop-located.handout (map (λ p. (c.args.topic.now.topic_id, p)) l))
    (none_left c.loop-located.rest.now c.in_default.ensures.cases) c.loop-located.invariant)
