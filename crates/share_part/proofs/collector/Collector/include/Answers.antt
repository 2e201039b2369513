use Rattle.std.proofs.Common.{◌∙◌, refl, sym}
use Rattle.share_part.proofs.Gathering.{refused, taken_in}
use Rattle.share_part.proofs.collector.Collector.include.Goals as goal

pub returns-in_default-with_batch-clause-goes : goal.returns-in_default-with_batch-clause-goes
returns-in_default-with_batch-clause-goes g c = λ walk h. refused c.args.log.now.batches c.args.self.now walk c.args.slot c.in-Some.place c.requires.sound.rises h
    (sym (c.is_in_answer.ensures.value walk.newest h.newest) ∙ c.if-is_in_answer.false) c.in-Some.ensures.1 c.in_default-with_batch.ensures.fits

pub returns-clause-goes : goal.returns-clause-goes
returns-clause-goes g c = λ walk h. taken_in c.args.log.now.batches c.args.self.now walk c.args.slot c.in-Some.place c.requires.sound.rises h
    (sym (c.is_in_answer.ensures.value walk.newest h.newest) ∙ c.if-is_in_answer.false) c.in-Some.ensures.1 _ c.in-Some-with_batch.ensures.fits
    c.in-Some-with_batch.ensures.left.0 c.in-Some-with_batch.ensures.left.1 c.in-Some-with_batch.ensures.left.2
    c.in-Some-with_batch.ensures.taken.0 c.in-Some-with_batch.ensures.taken.1 refl refl refl c.in_ok-push.ensures.items

pub unreachable-requires : goal.unreachable-requires
unreachable-requires g c = c.in_default.ensures (c.requires.above, c.requires.slot)
