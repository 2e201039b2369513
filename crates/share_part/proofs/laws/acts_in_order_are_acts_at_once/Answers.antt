use Rattle.share_part.proofs.Sequel.{held_one_by_one, stored_one_by_one}
use Rattle.share_part.proofs.laws.acts_in_order_are_acts_at_once.Goals as goal

pub returns-clause-stored : goal.returns-clause-stored
returns-clause-stored c = stored_one_by_one

pub returns-clause-held : goal.returns-clause-held
returns-clause-held c = held_one_by_one
