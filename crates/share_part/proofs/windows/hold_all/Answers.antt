use Rattle.share_part.proofs.Holdings.{next_room, grant_more}
use Rattle.share_part.proofs.windows.hold_all.Goals as goal

pub hold_grant-requires-clause-spare : goal.hold_grant-requires-clause-spare
hold_grant-requires-clause-spare g c = next_room g.W.Window.held g.W.Window.spare c.args.member.now c.args.end c.args.grants.now c.args.window.now c.loop-grant.grant-index c.loop-grant.window
    (record { first = 0; last = 0; count = 0 }) c.loop-grant.invariant c.loop-grant-test.true

pub loop-grant-preserved : goal.loop-grant-preserved
loop-grant-preserved g c = grant_more g.W.Window.held g.W.Window.spare c.args.member.now c.args.end c.args.grants.now c.args.window.now c.loop-grant.grant-index c.loop-grant.window
    (record { first = 0; last = 0; count = 0 }) c.loop-grant.invariant c.loop-grant-test.true c.hold_grant.new.window c.hold_grant.ensures.held c.hold_grant.ensures.spare
