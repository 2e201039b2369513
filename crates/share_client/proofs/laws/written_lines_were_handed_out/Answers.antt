use Rattle.share_client.proofs.Bounding.{writes_handed}
use Rattle.share_client.proofs.laws.written_lines_were_handed_out.Goals as goal

pub returns : goal.returns
returns c = λ conf core trace s. writes_handed conf trace s.allowed
