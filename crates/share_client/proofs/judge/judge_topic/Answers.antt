use Rattle.std.proofs.Common.{List, map, subst, sym}
use Rattle.share_client.specs.declared.fetched.LocatedPartition.{LocatedPartition}
use Rattle.share_client.specs.declared.located.Located.{Located}
use Rattle.share_client.specs.Grants.{entries_of}
use Rattle.share_client.proofs.Judging.{Goes, goes_from}
use Rattle.share_client.proofs.judge.judge_topic.Goals as goal

pub loop-located-init : goal.loop-located-init
loop-located-init c =
    subst (λ (l : List (Located LocatedPartition)). Goes c.args.tally.now (entries_of c.args.topic.now) c.args.tally.now (map (λ p. (c.args.topic.now.topic_id, p)) l))
    (sym c.as_slice-rest.ensures.items) (goes_from c.args.tally.now (entries_of c.args.topic.now))
