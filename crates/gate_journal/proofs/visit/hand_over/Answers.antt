use Rattle.std.proofs.Common.{arith, length-append, ap, length}
use Rattle.gate_journal.specs.Frames.{blocks}
use Rattle.gate_journal.proofs.Handing.{walk_more, walk_shut, walk_waits}
use Rattle.gate_journal.proofs.Texts.{few_frames}
use Rattle.gate_journal.proofs.visit.hand_over.Goals as goal

pub returns-then-gate-ne1 : goal.returns-then-gate-ne1
returns-then-gate-ne1 g c =
    walk_shut c.args.place c.args.bytes.now c.loop-gate.rest.now _ _ _ _ c.loop-gate.invariant.walk c.in-Some.gate.now c.in-Some.behind.now c.in-Some.ensures.cases.0
    c.if-gate-ne1.true

pub returns-in_default-next_frame : goal.returns-in_default-next_frame
returns-in_default-next_frame g c =
    walk_waits c.args.place c.args.bytes.now c.loop-gate.rest.now _ _ _ _ c.loop-gate.invariant.walk c.in-Some.gate.now c.in-Some.behind.now c.in-Some.ensures.cases.0
    c.if-gate-ne1.false c.in_default-next_frame.ensures

pub overflow_add-count : goal.overflow_add-count
overflow_add-count g c =
    let w = c.loop-gate.invariant.walk in
    omega (arith, w.count_is, few_frames w.frames, ap length w.is, length-append (blocks w.frames) c.loop-gate.rest.now, w.some, c.loop-gate.invariant.fits)

pub loop-gate-preserved : goal.loop-gate-preserved
loop-gate-preserved g c =
    let next = c.in-Some-next_frame.ensures in
    record {
      walk = walk_more c.args.place c.args.bytes.now c.loop-gate.rest.now _ _ _ _ c.loop-gate.invariant.walk c.in-Some.gate.now c.in-Some.behind.now
          c.in-Some.ensures.cases.0 c.in-Some-next_frame.frame.now c.in-Some-next_frame.after.now _ c.if-gate-ne1.false next.2 next.0 next.1 c.in_ok-frame.ensures;
      fits = c.loop-gate.invariant.fits;
    }
