use Rattle.tape_run.proofs.Opening.{session}
use Rattle.tape_run.proofs.law.each_merge_is_a_session.Goals as goal

pub returns : goal.returns
returns c = λ conf first tapes histories links events recording merge. session conf first tapes histories links recording events merge
