use Rattle.share_coord.proofs.Storing.{one_write}
use Rattle.share_coord.proofs.laws.a_write_stores_one_record.Goals as goal

pub returns : goal.returns
returns c = one_write
