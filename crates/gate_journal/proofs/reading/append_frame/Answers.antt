use Rattle.std.proofs.Common.{◌≡◌, ◌++◌, ◌∙◌, List, ℕ, length, ap, arith}
use Rattle.gate_journal.proofs.FrameReads.{body_is, on_ok_both, one_and_more}
use Rattle.gate_journal.proofs.reading.append_frame.Goals as goal

pub returns-clause-ok : goal.returns-clause-ok
returns-clause-ok g c = on_ok_both c.append_at.result _ _ _ c.append_at.ensures.ok c.append_at.ensures.less (λ read less. λ x frame told is fits.
    let len : c.min.result ≡ length frame = omega (arith, c.min.ensures, c.in-Ok.ensures.is x frame told is, fits) in (
      read x (c.frame_len.ensures.looks.stays.content ∙ told) ∙ ap (λ (l : List ℕ). c.args.out.now.items ++ l) (body_is x c.args.place frame is _ len),
      omega (arith, less, len),
    ))

pub returns-clause-spared : goal.returns-clause-spared
returns-clause-spared g c = λ x frame told is room. c.append_at.ensures.spared (omega (arith, c.min.ensures, c.in-Ok.ensures.is x frame told is, room))

pub returns-clause-disk : goal.returns-clause-disk
returns-clause-disk g c = one_and_more g.D.Disk.seen c.args.disk.now c.frame_len.new.disk c.append_at.new.disk _ c.frame_len.ensures.runs c.in-Ok.ensures.calls c.append_at.ensures.disk
