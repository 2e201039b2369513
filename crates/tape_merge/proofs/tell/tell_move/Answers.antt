use Rattle.std.proofs.Common.{◌++◌, ◌∙◌, ap, sym}
use Rattle.tape_merge.specs.Telling.{told_by}
use Rattle.tape_merge.proofs.tell.tell_move.Goals as goal

pub returns-in-Steps : goal.returns-in-Steps
returns-in-Steps c =
    c.in_ok-tell_link-in-Steps.ensures ∙ ap (λ m. c.args.events.now.items ++ told_by c.args.conf.now.topics c.args.tapes.now c.args.links.now c.args.counts.now m) (sym c.in-Steps.is)

pub returns-in-Alone : goal.returns-in-Alone
returns-in-Alone c =
    c.in_ok-tell_tape-in-Alone.ensures ∙ ap (λ m. c.args.events.now.items ++ told_by c.args.conf.now.topics c.args.tapes.now c.args.links.now c.args.counts.now m) (sym c.in-Alone.is)
