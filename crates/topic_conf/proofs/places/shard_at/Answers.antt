use Rattle.std.proofs.Common.{sym}
use Rattle.topic_conf.proofs.Counting.{at_later, counted_later}
use Rattle.topic_conf.proofs.places.shard_at.Goals as goal

pub loop-topic-preserved : goal.loop-topic-preserved
loop-topic-preserved c = record {
  number = at_later c.args.id _ c.loop-topic.before c.in-Some.topic.now _ _ _ c.in-Some.ensures.cases.0 (sym c.if-eq.ensures) c.loop-topic.invariant.number;
  counted = counted_later c.loop-topic.before _ c.in-Some.topic.now _ _ c.in-Some.ensures.cases.0 c.loop-topic.invariant.counted;
}
