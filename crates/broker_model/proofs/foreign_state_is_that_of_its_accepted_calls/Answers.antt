use Rattle.broker_model.proofs.Opened.{none_tells, stored_tell}
use Rattle.broker_model.proofs.foreign_state_is_that_of_its_accepted_calls.Goals as goal

pub returns : goal.returns
returns c = record { none = none_tells; stored = λ first second states stored. stored_tell first second states stored }
