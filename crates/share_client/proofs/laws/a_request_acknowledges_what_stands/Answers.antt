use Rattle.share_client.proofs.Promising.{acknowledges}
use Rattle.share_client.proofs.laws.a_request_acknowledges_what_stands.Goals as goal

pub returns : goal.returns
returns c = λ conf core trace s. acknowledges conf trace
