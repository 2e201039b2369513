use Rattle.std.proofs.Common.{◌∙◌}
use Rattle.share_part.proofs.Letting.{due_is}
use Rattle.share_part.proofs.windows.is_due.Goals as goal

pub returns-clause-due : goal.returns-clause-due
returns-clause-due g c = c.is_some.ensures ∙ due_is c.args.clock (g.W.Window.held c.args.window.now) c.due.result c.known.ensures c.due.ensures
