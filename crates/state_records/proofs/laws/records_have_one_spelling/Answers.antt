use Rattle.state_records.proofs.Whole.{record_again, one_record}
use Rattle.state_records.proofs.laws.records_have_one_spelling.Goals as goal

pub returns-clause-read : goal.returns-clause-read
returns-clause-read c = record_again

pub returns-clause-one : goal.returns-clause-one
returns-clause-one c = one_record
