use Rattle.state_records.proofs.FaultPlaces.{wrong_at}
use Rattle.state_records.proofs.laws.faults_are_at_the_first_wrong_field.Goals as goal

pub returns : goal.returns
returns c = wrong_at
