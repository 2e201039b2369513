use Rattle.std.proofs.Common.{◌∙◌, ◌<◌, length, get_or, ap, arith, rules, w32}
use Rattle.std.proofs.lemmas.Int.{to_z-of_z}
use mir.Val.{SFits}
use Rattle.share_session.proofs.Twice.{again, passes}
use Rattle.share_session.proofs.repeats.repeats_in.Goals as goal

pub returns-then-not-fresh : goal.returns-then-not-fresh
returns-then-not-fresh c = λ rest.
    let fits : SFits w32 c.partition-item.result.partition_index = search rules in
    let within : c.loop-partition.partition-index < length c.args.topic.now.partitions = omega (arith, ap length c.as_slice-partition-items.ensures.items) in
    c.loop-partition.invariant rest
    ∙ again c.args.topic.now.topic_id c.args.topic.now.partitions c.loop-partition.partition-index c.partition-item.result within
    (c.partition-item.is ∙ ap (λ l. get_or l c.loop-partition.partition-index c.partition-item.result) c.as_slice-partition-items.ensures.items)
    _ (to_z-of_z w32 _ fits) c.loop-partition.seen.keys c.in_ok-fresh.fresh c.in_ok-fresh.ensures.added c.if-not-fresh.true rest

pub loop-partition-preserved : goal.loop-partition-preserved
loop-partition-preserved c = λ rest.
    let fits : SFits w32 c.partition-item.result.partition_index = search rules in
    let within : c.loop-partition.partition-index < length c.args.topic.now.partitions = omega (arith, ap length c.as_slice-partition-items.ensures.items) in
    c.loop-partition.invariant rest
    ∙ passes c.args.topic.now.topic_id c.args.topic.now.partitions c.loop-partition.partition-index c.partition-item.result within
    (c.partition-item.is ∙ ap (λ l. get_or l c.loop-partition.partition-index c.partition-item.result) c.as_slice-partition-items.ensures.items)
    _ (to_z-of_z w32 _ fits) c.loop-partition.seen.keys c.insert.new.self.keys c.in_ok-fresh.fresh c.in_ok-fresh.ensures.added c.if-not-fresh.false c.in_ok-fresh.ensures.updates.0 rest
