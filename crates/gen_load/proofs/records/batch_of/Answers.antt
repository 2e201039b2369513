use Rattle.std.proofs.Common.{◌≤◌, length, subst, sym, ◌∙◌, List}
use Rattle.rec_batch.specs.declared.rec.Rec.{Rec}
use Rattle.rec_batch.specs.Written.{batch_bytes}
use Rattle.gen_load.proofs.Sizes.{batch_small}
use Rattle.gen_load.proofs.records.batch_of.Goals as goal

pub write_batch-requires-clause-size : goal.write_batch-requires-clause-size
write_batch-requires-clause-size c =
    subst (λ (l : List Rec). length (batch_bytes l) ≤ 1048588) (sym (c.deref.ensures.value ∙ c.in_ok-records.ensures)) (batch_small c.args.round c.ranges.round.fits)
