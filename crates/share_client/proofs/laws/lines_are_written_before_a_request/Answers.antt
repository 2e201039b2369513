use Rattle.share_client.proofs.Promising.{writes_first}
use Rattle.share_client.proofs.laws.lines_are_written_before_a_request.Goals as goal

pub returns : goal.returns
returns c = λ conf core trace s. writes_first conf trace s.allowed
