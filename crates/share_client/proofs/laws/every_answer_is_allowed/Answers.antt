use Rattle.share_client.proofs.laws.every_answer_is_allowed.Goals as goal

pub returns : goal.returns
returns c = λ conf core trace s. s.allowed
