use Rattle.share_client.proofs.Promising.{acknowledges_once}
use Rattle.share_client.proofs.laws.a_reply_is_acknowledged_once.Goals as goal

pub returns : goal.returns
returns c = λ conf core trace s. acknowledges_once conf trace
