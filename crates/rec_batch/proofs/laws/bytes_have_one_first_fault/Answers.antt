use Rattle.rec_batch.proofs.OneFault.{one_first_fault}
use Rattle.rec_batch.proofs.Uniqueness.{batch_clear}
use Rattle.rec_batch.proofs.laws.bytes_have_one_first_fault.Goals as goal

pub returns-clause-one : goal.returns-clause-one
returns-clause-one c = one_first_fault

pub returns-clause-none : goal.returns-clause-none
returns-clause-none c = λ form bytes fault records first batch. batch_clear form bytes records batch fault first.0
