use Rattle.std.proofs.Common.{List, ℕ, subst}
use Rattle.std.specs.Prelude.{map, max}
use Rattle.share_model.specs.Logs.{IsNextSlot}
use Rattle.part_log.specs.Starts.{IsNextSlotOf}
use Rattle.log_index.specs.Indexes.{log_of}
use Rattle.log_index.specs.declared.entry.Entry.{Entry}
use Rattle.part_log.specs.Holding.{batches_of, entry_of, kept_in}
use Rattle.part_log.specs.Logs.{LogParts, log_in}
use Rattle.part_log.proofs.Indexing.{next_of, next_there}
use Rattle.part_log.proofs.log.PartLog.next_slot.Goals as goal

pub returns : goal.returns
returns g c =
    let frames = kept_in c.self.inside.seen.frames in
    let from = max c.args.from c.self.inside.start in
    subst (λ (v : LogParts g.row.D.Denot). IsNextSlotOf (log_in v) c.args.from c.next_slot.result) c.self.view_is
    (next_of (record { batches = batches_of c.self.inside.seen.frames; start = c.self.inside.start }) c.args.from c.next_slot.result
    (next_there frames from c.next_slot.result
    (subst (λ (n : ℕ). IsNextSlot (log_of (map entry_of frames)) n c.next_slot.result) c.max.ensures
    (subst (λ (es : List Entry). IsNextSlot (log_of es) c.max.result c.next_slot.result) c.self.invariant.indexed.entries c.next_slot.ensures))))
