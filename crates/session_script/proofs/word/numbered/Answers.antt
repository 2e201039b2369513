use Rattle.session_script.proofs.Sayings.{not_cut, not_number}
use Rattle.session_script.proofs.word.numbered.Goals as goal

pub returns-in_default : goal.returns-in_default
returns-in_default c = not_cut c.args.text.now c.in_default.ensures

pub returns-in_default-number : goal.returns-in_default-number
returns-in_default-number c = not_number c.args.text.now c.in-Some.word.now c.in-Some.rest.now c.in-Some.ensures c.in_default-number.ensures
