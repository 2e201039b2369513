use Rattle.std.proofs.Common.{◌<◌, length, arith, rules}
use Rattle.std.specs.Io.KnownBytes.{IsAtEnd}
use Rattle.share_top.specs.SegmentReading.{IsSize}
use Rattle.share_top.proofs.SegmentReads.{no_size_none, far_none, short_none, refuses_each, refuses_end, size_on, longer_on}
use Rattle.share_top.proofs.segment.SegmentReader.sized_front.Goals as goal

pub returns-in_default-clause-answer : goal.returns-in_default-clause-answer
returns-in_default-clause-answer g c =
    refuses_each (g.S.Source.left c.args.source.now) c.args.self.now.place c.args.self.now.pending (omega (arith, c.requires))
    (λ more. no_size_none c.args.self.now.place c.args.self.now.pending more c.requires (rw c.bytes.ensures at c.in_default.ensures))

pub returns-then-size-place-clause-answer : goal.returns-then-size-place-clause-answer
returns-then-size-place-clause-answer g c =
    refuses_each (g.S.Source.left c.args.source.now) c.args.self.now.place c.args.self.now.pending (omega (arith, c.requires))
    (λ more. far_none c.args.self.now.place c.args.self.now.pending more c.in-Some.size c.requires (rw c.bytes.ensures at c.in-Some.ensures)
    (omega (arith, c.if-size-place.true, c.place.ensures.value, c.place.ensures.within)))

pub returns-in-Ok-false-clause-answer : goal.returns-in-Ok-false-clause-answer
returns-in-Ok-false-clause-answer g c =
    let says : IsSize c.args.self.now.pending c.in-Some.size = rw c.bytes.ensures at c.in-Some.ensures in
    let short : length c.fill_to.new.self.pending < c.in-Some.size = search rules in
    let end : IsAtEnd (g.S.Source.left c.fill_to.new.source) = search rules in
    let longer = longer_on c.args.self.now c.fill_to.new.self _ _ c.in-Ok-false.ensures.taken in
    refuses_end (g.S.Source.left c.fill_to.new.source) c.fill_to.new.self.place c.fill_to.new.self.pending (omega (arith, longer, c.requires)) end
    (short_none c.fill_to.new.self.place c.fill_to.new.self.pending c.fill_to.new.self.pending c.in-Some.size
    (size_on c.args.self.now c.fill_to.new.self _ _ c.in-Some.size c.in-Ok-false.ensures.taken c.requires says) short)
