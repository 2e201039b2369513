use Rattle.rec_batch.proofs.Spelled.{few_bytes, few_records}
use Rattle.rec_batch.proofs.write.whole.Goals as goal

pub checked_part-requires-clause-few : goal.checked_part-requires-clause-few
checked_part-requires-clause-few c = few_records c.args.records.now c.requires.size

pub checked_part-requires-clause-small : goal.checked_part-requires-clause-small
checked_part-requires-clause-small c = few_bytes c.args.records.now c.requires.size
