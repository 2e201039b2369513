use Rattle.session_script.proofs.Sayings.{step_no_moment}
use Rattle.session_script.proofs.line.step.Goals as goal

pub returns-in_default-number : goal.returns-in_default-number
returns-in_default-number c = step_no_moment c.args.rest.now c.in-Some.word.now c.in-Some.conn c.in-Some.ensures c.in_default-number.ensures
