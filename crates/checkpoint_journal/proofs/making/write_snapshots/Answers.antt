use Rattle.std.proofs.Common.{◌∷◌, List, ℕ, arith, subst}
use Rattle.gate_journal.specs.Frames.{frame_in}
use Rattle.gate_journal.specs.Journals.{IsAtRest}
use Rattle.checkpoint_journal.specs.Checkpoints.{AreSnapshots, IsNext}
use Rattle.checkpoint_journal.specs.Generations.{head_frame}
use Rattle.checkpoint_journal.proofs.Writing.{handing_all, handing_ends, handing_fails, handing_halts, handing_moments, handing_more, handing_none, handing_stops}
use Rattle.checkpoint_journal.proofs.making.write_snapshots.Goals as goal

pub loop-init : goal.loop-init
loop-init g c = handing_none g.D.Disk.seen g.met.D.Disk.only_now c.args.idle.now (g.S.Snapshots.rest c.args.snapshots.now) _ (omega (arith, c.count-count.ensures))

pub returns-in-Err-clause-failed : goal.returns-in-Err-clause-failed
returns-in-Err-clause-failed g c = λ n lt was. handing_stops g.D.Disk.seen c.args.idle.now c.loop.idle c.loop.idle _ _ _ c.loop.invariant n lt was

pub returns-in-Err-put_frame-clause-failed : goal.returns-in-Err-put_frame-clause-failed
returns-in-Err-put_frame-clause-failed g c = λ n lt was.
    let next : IsNext (g.S.Snapshots.rest c.loop.snapshots) (frame_in c.deref_mut.result.now) (g.S.Snapshots.rest c.next.new.self) =
    rw c.deref_mut.ensures.value c.in_default.ensures in
    handing_fails g.D.Disk.seen c.args.idle.now c.loop.idle c.put_frame.new.idle _ _ _ c.loop.invariant _ _ next c.put_frame.ensures.any_moment
    c.in-Err-put_frame.ensures.failed n lt was

pub returns-in-Err-put_frame-clause-any_moment : goal.returns-in-Err-put_frame-clause-any_moment
returns-in-Err-put_frame-clause-any_moment g c = λ n lt was.
    let next : IsNext (g.S.Snapshots.rest c.loop.snapshots) (frame_in c.deref_mut.result.now) (g.S.Snapshots.rest c.next.new.self) =
    rw c.deref_mut.ensures.value c.in_default.ensures in
    handing_moments g.D.Disk.seen c.args.idle.now c.loop.idle c.put_frame.new.idle _ _ _ c.loop.invariant _ _ next c.put_frame.ensures.any_moment n lt was

pub loop-preserved : goal.loop-preserved
loop-preserved g c =
    let next : IsNext (g.S.Snapshots.rest c.loop.snapshots) (frame_in c.deref_mut.result.now) (g.S.Snapshots.rest c.next.new.self) =
    rw c.deref_mut.ensures.value c.in_default.ensures in
    handing_more g.D.Disk.seen c.args.idle.now c.loop.idle c.put_frame.new.idle _ _ _ c.loop.invariant _ _ next c.put_frame.ensures.any_moment _
    (omega (arith, c.loop-test.true)) c.put_frame.ensures.runs c.in_default-put_frame.ensures.calls c.in_default-put_frame.ensures.ok

pub returns-clause-ok : goal.returns-clause-ok
returns-clause-ok g c = λ n lt was.
    let all = handing_all g.D.Disk.seen c.args.idle.now c.loop.idle c.loop.idle _ _ _ c.loop.invariant (omega (arith, c.loop-test.false)) in
    subst (λ (l : List (List ℕ)). IsAtRest g.D.Disk.seen c.loop.idle (head_frame n ∷ l)) all (c.loop.invariant.rests n lt was)

pub returns-clause-all : goal.returns-clause-all
returns-clause-all g c = subst AreSnapshots
    (handing_all g.D.Disk.seen c.args.idle.now c.loop.idle c.loop.idle _ _ _ c.loop.invariant (omega (arith, c.loop-test.false))) c.loop.invariant.snapshots

pub returns-in-Err-clause-stops : goal.returns-in-Err-clause-stops
returns-in-Err-clause-stops g c = λ n lt was. handing_halts g.D.Disk.seen c.args.idle.now c.loop.idle c.loop.idle _ _ _ c.loop.invariant n lt was

pub returns-in-Err-put_frame-clause-stops : goal.returns-in-Err-put_frame-clause-stops
returns-in-Err-put_frame-clause-stops g c = λ n lt was.
    let next : IsNext (g.S.Snapshots.rest c.loop.snapshots) (frame_in c.deref_mut.result.now) (g.S.Snapshots.rest c.next.new.self) =
    rw c.deref_mut.ensures.value c.in_default.ensures in
    handing_ends g.D.Disk.seen c.args.idle.now c.loop.idle c.put_frame.new.idle _ _ _ c.loop.invariant _ _ next c.put_frame.ensures.any_moment
    c.in-Err-put_frame.ensures.stops n lt was

pub returns-clause-calls : goal.returns-clause-calls
returns-clause-calls g c = c.loop.invariant.does
