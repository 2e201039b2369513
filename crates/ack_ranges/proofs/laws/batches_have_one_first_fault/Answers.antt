use Rattle.ack_ranges.proofs.Faults.{one_fault, no_fault}
use Rattle.ack_ranges.proofs.laws.batches_have_one_first_fault.Goals as goal

pub returns-clause-one : goal.returns-clause-one
returns-clause-one c = one_fault

pub returns-clause-none : goal.returns-clause-none
returns-clause-none c = no_fault
