use Rattle.std.proofs.Common.{◌++◌, ◌∙◌, ap, sym}
use Rattle.tape_merge.specs.Telling.{expiry}
use Rattle.tape_merge.proofs.Tellings.{told_none}
use Rattle.tape_merge.proofs.tell.tell_expiry.Goals as goal

pub returns-in_default : goal.returns-in_default
returns-in_default c = told_none c.args.events.now.items _ (ap (λ o. expiry o c.args.now) c.in_default.ensures.found)

pub returns : goal.returns
returns c = c.in_ok-tell.ensures ∙ ap (λ o. c.args.events.now.items ++ expiry o c.args.now) (sym c.in-Some.ensures.found)
