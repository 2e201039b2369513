use Rattle.call_fold.proofs.Talked.{means_entries}
use Rattle.call_fold.proofs.law.each_row_is_of_its_own_entry.Goals as goal

pub returns : goal.returns
returns g c = means_entries g.C.Call.acts
