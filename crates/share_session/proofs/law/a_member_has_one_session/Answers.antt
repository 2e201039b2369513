use Rattle.share_session.proofs.Kept.{one_each}
use Rattle.share_session.proofs.law.a_member_has_one_session.Goals as goal

pub returns : goal.returns
returns c = λ change sessions h. one_each change sessions h
