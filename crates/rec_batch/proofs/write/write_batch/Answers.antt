use Rattle.rec_batch.proofs.Spelled.{stands_from}
use Rattle.rec_batch.proofs.write.write_batch.Goals as goal

pub returns-clause-stands : goal.returns-clause-stands
returns-clause-stands c = stands_from c.args.records.now c.whole.result c.requires.some c.requires.size c.whole.ensures.value c.whole.ensures.checksum
