use Rattle.std.proofs.Common.{Err, sym, ap, ◌∙◌, subst, ℕ}
use Rattle.share_top.specs.declared.load.Stop.{Stop}
use Rattle.share_top.specs.SegmentReading.{IsFront}
use Rattle.share_top.specs.Changes.{input_change}
use Rattle.share_top.specs.Loads.{LoadsNext, stop_by}
use Rattle.share_top.proofs.LoadSteps.{stops}
use Rattle.share_top.proofs.load.load_next.Goals as goal

pub returns-in-Err-clause-loads : goal.returns-in-Err-clause-loads
returns-in-Err-clause-loads g c =
    let front : IsFront c.front.new.self.place c.front.new.self.pending c.in-Ok-Batch.size = rw c.in-Ok-Batch.field-0-is at c.in-Ok-Batch.ensures.answer in
    let input = input_change g.I.Source.left g.I.Source.ended g.I.Source.faults c.args.input.now c.front.new.source in
    let stop = c.stop_of.ensures ∙ ap (λ (n : ℕ). stop_by c.in-Err.fault n c.starved.result) c.place-in-Err.ensures.value in
    subst (λ (s : Stop). LoadsNext g.D.Disk.seen c.args.log.now c.load.new.self c.args.reader.now c.front.new.self input (Err s)) (sym stop)
    (stops g.D.Disk.seen c.args.log.now c.load.new.self
    c.args.reader.now c.front.new.self input c.in-Ok-Batch.size c.load.result c.in-Ok-Batch.ensures.taken front
    (rw c.first.ensures at c.load.ensures.once) (rw c.first.ensures at c.load.ensures.batch) (rw c.first.ensures at c.load.ensures.behind)
    (rw c.first.ensures at c.load.ensures.fits) c.in-Err.fault c.starved.result c.in-Err.is)
