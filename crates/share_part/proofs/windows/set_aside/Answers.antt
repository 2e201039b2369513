use Rattle.std.proofs.Common.{◌∙◌, ap}
use Rattle.share_part.specs.Shards.{held_of}
use Rattle.share_part.proofs.Holdings.{set_same}
use Rattle.share_part.proofs.windows.set_aside.Goals as goal

pub returns-clause-held : goal.returns-clause-held
returns-clause-held g c = λ other. set_same g.W.Window.held c.args.group.now c.reserve.new.self c.args.windows.now.entries (c.get_mut.follows.lender c.reserve.new.self).entries
    ((c.get_mut.follows.holds c.reserve.new.self).3 c.requires).0
    (c.reserve.ensures.held ∙ ap (held_of g.W.Window.held) c.in-Some.ensures.value) other
