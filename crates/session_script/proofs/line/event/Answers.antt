use Rattle.std.proofs.Common.{rules}
use Rattle.session_script.proofs.Sayings.{not_text, not_words, other_word}
use Rattle.session_script.proofs.line.event.Goals as goal

pub returns-in_default : goal.returns-in_default
returns-in_default c = not_text c.args.line.now c.in_default.ensures.cases.0

pub returns-in_default-cut : goal.returns-in_default-cut
returns-in_default-cut c = not_words c.args.line.now (rw c.in-Ok.ensures.cases.0 at c.in_default-cut.ensures)

pub returns-in_default-word : goal.returns-in_default-word
returns-in_default-word c = other_word c.args.line.now c.in-Some.word.now c.in-Some.rest.now (rw c.in-Ok.ensures.cases.0 at c.in-Some.ensures)
    (search rules) (search rules) (search rules) (search rules) (search rules) (search rules) (search rules) (search rules)
