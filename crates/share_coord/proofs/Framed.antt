-- A record whose frame stands in a buffer, put into the journal without a checkpoint.
use Rattle.std.proofs.Common.{◌≡◌, ◌+◌, refl, arith, ℕ, List, [], ◌∷◌, Bool, None, false, Result, length}
use Rattle.std.proofs.lemmas.Result.{on_ok_weaker, on_err_weaker}
use Rattle.edge_io.specs.Views.{DiskView}
use Rattle.gate_journal.specs.Frames.{frame_in}
use Rattle.coord_checkpoint.specs.Stores.{StoreParts as JournalParts}
use Rattle.coord_checkpoint.specs.Writes.{Writes}
use Rattle.share_model.specs.declared.fault.StoreFault.{StoreFault}
use Rattle.state_records.specs.Spelling.{IsRecord, record_bytes}
use Rattle.state_records.specs.declared.record.StateRecord.{StateRecord}
use Rattle.share_coord.specs.Putting.{Puts, told_as}
use Rattle.share_coord.proofs.Putting.{put_done, within_alone}

pub put_alone : {D : Type 0} (seen : D → DiskView) (old new : JournalParts D) (buffer : List ℕ) (written : StateRecord) → IsRecord written
    → frame_in buffer ≡ record_bytes written → length buffer ≡ length (record_bytes written) + 5 → (snapshots : List (List ℕ)) (r : Result ℕ StoreFault)
    → Writes seen (frame_in buffer) [] snapshots (length buffer) old new false r
    → Writes seen (frame_in buffer) [] ([] ∷ []) (length buffer) old new false r
    → Puts seen snapshots written None old new false (told_as r)
put_alone seen old new buffer written valid is size snapshots r w alone = put_done seen old new snapshots written None (λ (b : Bool). written)
    (λ (b : Bool). frame_in buffer) false refl is valid valid (length buffer) (omega (arith, size)) r w.full
    (λ frames sealing pending keeps.
    let run = alone.any_moment frames sealing pending keeps in
    record {
      later_a = run.later_a;
      later_b = run.later_b;
      each = λ x y left right.
          let found = run.each x y left right in
          (found.0, found.1, within_alone x y written (frame_in buffer) [] frames sealing pending snapshots found.0 is valid found.1 found.2);
    })
    (w.runs_first, w.runs_second) w.turned
    w.quiet
    w.device
    (on_ok_weaker r (λ a frames sealing pending keeps. let h = a frames sealing pending keeps in (h.base, h.from, h.few, h.keeps)) w.kept)
    (on_err_weaker r (λ a frames sealing pending keeps. let h = a frames sealing pending keeps in (h.base, h.seals, h.waits, h.from, h.may, h.which, h.keeps)) w.failed)
