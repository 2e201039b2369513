use Rattle.broker_model.proofs.Passing.{openings_well, passes_closed, unlost}
use Rattle.broker_model.proofs.starts_pass_closed_records.Goals as goal

pub returns : goal.returns
returns c = record {
  passed = λ conf first last steps run. passes_closed conf first last steps run;
  unlost = λ r steps free found. unlost r steps free found;
  opening = λ conf. openings_well conf;
}
