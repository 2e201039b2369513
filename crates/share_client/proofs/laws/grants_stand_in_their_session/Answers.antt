use Rattle.share_client.proofs.Promising.{stands_in_session}
use Rattle.share_client.proofs.laws.grants_stand_in_their_session.Goals as goal

pub returns : goal.returns
returns c = λ conf core trace s. stands_in_session conf trace
