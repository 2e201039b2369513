use Rattle.part_log.specs.Logs.{log_in}
use Rattle.part_log.proofs.Indexing.{next_above}
use Rattle.share_part.proofs.Slotting.{next_is, next_later, next_small}
use Rattle.share_part.proofs.walk.next_slot.Goals as goal

pub returns-clause-later : goal.returns-clause-later
returns-clause-later g c = next_later (log_in c.args.log.now) c.args.from c.next_slot.result c.next_slot.ensures

pub returns-clause-value : goal.returns-clause-value
returns-clause-value g c = next_is c.args.log.now.batches c.args.from c.next_slot.result c.requires.sound.rises
    (next_above (log_in c.args.log.now) c.args.from c.next_slot.result c.requires.above c.next_slot.ensures)

pub returns-clause-slot : goal.returns-clause-slot
returns-clause-slot g c = next_small c.args.log.now.batches c.args.from c.next_slot.result c.requires.sound
    (next_above (log_in c.args.log.now) c.args.from c.next_slot.result c.requires.above c.next_slot.ensures)
