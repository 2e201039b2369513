use Rattle.share_client.proofs.Promising.{writes_taken}
use Rattle.share_client.proofs.laws.lines_are_those_of_the_reply.Goals as goal

pub returns : goal.returns
returns c = λ conf core trace s. writes_taken conf trace
