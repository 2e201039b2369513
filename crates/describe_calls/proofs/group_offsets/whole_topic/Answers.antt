use Rattle.std.proofs.Common.{length, ap, sym, arith}
use Rattle.std.proofs.lemmas.List.FromFn.{length-map-range_with_len, map-range_with_len_more}
use Rattle.describe_calls.specs.GroupOffsets.{whole_partition}
use Rattle.describe_calls.proofs.group_offsets.whole_topic.Goals as goal

pub loop-number-preserved : goal.loop-number-preserved
loop-number-preserved c =
    let number = c.loop-number.number in
    let one = whole_partition c.args.conf.now.topics c.args.topic.now.id in
    rw (c.in_ok-push.ensures.items, c.loop-number.invariant, c.whole_partition.ensures) (sym (map-range_with_len_more one 0 number number (omega arith)))

pub new-requires-2 : goal.new-requires-2
new-requires-2 c =
    let one = whole_partition c.args.conf.now.topics c.args.topic.now.id in
    record { few = omega (arith, ap length c.loop-number.invariant, length-map-range_with_len one 0 c.loop-number.number) }
