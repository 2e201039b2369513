use Rattle.std.proofs.Common.{◌∙◌, sym, ap, subst, Ok}
use Rattle.gate_journal.specs.Frames.{IsFrame}
use Rattle.checkpoint_journal.specs.Generations.{mark_of, mark_read}
use Rattle.state_records.specs.declared.record.StateRecord.{StateRecord}
use Rattle.state_records.proofs.Whole.{record_again}
use Rattle.share_coord.proofs.Sizes.{snapshot_fits}
use Rattle.share_coord.proofs.snapshots.snapshot_buffer.Goals as goal

pub returns-clause-fits : goal.returns-clause-fits
returns-clause-fits c = subst IsFrame (sym c.in_ok-buffer.ensures.frame)
    (snapshot_fits c.in_ok-written.written _ c.in_ok-written.ensures c.key_fits.ensures c.known.ensures.few)

pub returns-clause-mark : goal.returns-clause-mark
returns-clause-mark c = ap mark_of c.in_ok-buffer.ensures.frame ∙ (ap mark_read (record_again c.in_ok-written.written c.in_ok-buffer.ensures.valid)
    ∙ ap (λ (r : StateRecord). mark_read (Ok r)) c.in_ok-written.ensures)
