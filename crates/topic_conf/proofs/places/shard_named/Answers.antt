use Rattle.std.proofs.Common.{List, ℕ, ap, sym, ◌∙◌}
use Rattle.std.specs.Str.{bytes_eq}
use Rattle.topic_conf.proofs.Counting.{named_later, counted_later, split_at_place}
use Rattle.topic_conf.proofs.places.shard_named.Goals as goal

pub loop-topic-preserved : goal.loop-topic-preserved
loop-topic-preserved c =
    let split = split_at_place c.args.topics.now c.loop-topic.topic-index c.topic-item.result c.loop-topic-test.true c.topic-item.is in
    let other = ap (λ (l : List ℕ). bytes_eq l c.args.name.now) (sym c.as_str.ensures.same) ∙ sym c.if-eq.ensures in
    record {
      number = named_later c.args.name.now c.args.part c.loop-topic.first c.topic-item.result _ _ _ split other c.loop-topic.invariant.number;
      counted = counted_later c.loop-topic.first _ c.topic-item.result _ _ split c.loop-topic.invariant.counted;
    }
