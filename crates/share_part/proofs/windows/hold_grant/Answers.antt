use Rattle.std.proofs.Common.{◌∙◌, ◌+◌, ◌-◌}
use Rattle.share_part.proofs.Holdings.{holds_all}
use Rattle.share_part.proofs.windows.hold_grant.Goals as goal

pub returns-clause-held : goal.returns-clause-held
returns-clause-held g c = c.in_default.ensures.ok
    ∙ holds_all c.args.member.now c.args.end c.args.grant.count c.args.grant.first ((c.args.grant.last + 1) - c.args.grant.first) (g.W.Window.held c.args.window.now)
