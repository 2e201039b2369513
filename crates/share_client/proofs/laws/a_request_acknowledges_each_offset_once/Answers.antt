use Rattle.share_client.proofs.Parting.{grants_once}
use Rattle.share_client.proofs.laws.a_request_acknowledges_each_offset_once.Goals as goal

pub returns : goal.returns
returns c = λ conf core trace s. grants_once conf trace s.allowed
