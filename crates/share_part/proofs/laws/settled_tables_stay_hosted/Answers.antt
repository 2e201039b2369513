use Rattle.share_part.proofs.Staying.{settled_hosted}
use Rattle.share_part.proofs.laws.settled_tables_stay_hosted.Goals as goal

pub returns : goal.returns
returns c = λ conf log group state next held acts is_log few was well s. settled_hosted conf log.batches group state held acts is_log few was well next s
