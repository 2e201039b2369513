use Rattle.rec_batch.proofs.Contented.{only_from}
use Rattle.rec_batch.proofs.read.read_batch.Goals as goal

pub returns-clause-only : goal.returns-clause-only
returns-clause-only c = only_from c.args.form c.args.bytes.now c.judge.result c.judge.ensures.refused
