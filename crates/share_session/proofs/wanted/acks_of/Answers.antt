use Rattle.std.proofs.Common.{◌≡◌, ◌+◌, length, arith, ap, ◌∙◌}
use Rattle.std.proofs.lemmas.Grind.{common_steps}
use Rattle.std.proofs.lemmas.List.{length-map}
use Rattle.share_model.specs.Acks.{types_in}
use Rattle.share_session.proofs.Lists.{types_in_snoc}
use Rattle.share_session.proofs.wanted.acks_of.Goals as goal

pub loop-batch-preserved : goal.loop-batch-preserved
loop-batch-preserved c = record {
  list = grind (arith, common_steps);
  room =
      let more : types_in c.push.new.self.items ≡ types_in c.loop-batch.list.items + length c.in_ok-ack_batch.field-0.types =
      ap types_in c.in_ok-push.ensures.items ∙ types_in_snoc _ _ in
      let count : length c.in_ok-ack_batch.field-0.types ≡ length c.batch-item.result.acknowledge_types =
      ap (λ b. length b.types) c.in_ok-ack_batch.ensures ∙ length-map _ _ in
      let same : length c.as_slice-count.result.now ≡ length c.batch-item.result.acknowledge_types = ap length c.as_slice-count.ensures.items in
      omega (arith, more, count, same, c.loop-batch.invariant.room);
}
