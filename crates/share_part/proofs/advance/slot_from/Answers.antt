use Rattle.part_log.specs.Logs.{log_in}
use Rattle.part_log.proofs.Indexing.{next_above}
use Rattle.share_part.proofs.Advancing.{next_below}
use Rattle.share_part.proofs.advance.slot_from.Goals as goal

pub returns-clause-next : goal.returns-clause-next
returns-clause-next g c = next_above (log_in c.args.log.now) c.args.from c.next_slot.result c.requires.above c.next_slot.ensures

pub returns-clause-below : goal.returns-clause-below
returns-clause-below g c = next_below c.args.log.now.batches c.args.from c.next_slot.result c.requires.sound
    (next_above (log_in c.args.log.now) c.args.from c.next_slot.result c.requires.above c.next_slot.ensures)
