use Rattle.std.proofs.Common.{◌∙◌, sym}
use Rattle.share_part.proofs.Holdings.{none_held, set_same}
use Rattle.share_part.proofs.windows.add_window.Goals as goal

pub returns-clause-held : goal.returns-clause-held
returns-clause-held g c = λ other. set_same g.W.Window.held c.args.group.now c.new.result c.args.windows.now.entries c.insert.new.self.entries c.in_ok-insert.ensures.updates.0
    (c.new.ensures ∙ sym (none_held g.W.Window.held c.args.windows.now.entries c.args.group.now (sym c.contains_key.ensures ∙ c.if-contains_key.false))) other
