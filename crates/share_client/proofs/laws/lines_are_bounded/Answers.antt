use Rattle.share_client.proofs.Bounding.{bounded}
use Rattle.share_client.proofs.laws.lines_are_bounded.Goals as goal

pub returns : goal.returns
returns c = λ conf core trace s. bounded conf trace s.allowed
