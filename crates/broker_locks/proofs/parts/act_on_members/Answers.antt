use Rattle.std.proofs.Common.{rules, Ok, Err}
use Rattle.broker_shards.specs.Acts.{ActsMembers}
use Rattle.broker_locks.proofs.Places.{acted, members_stay}
use Rattle.broker_locks.proofs.parts.act_on_members.Goals as goal

pub returns-in-Ok-clause-stay : goal.returns-in-Ok-clause-stay
returns-in-Ok-clause-stay g c = members_stay c.args.shared.now c.args.passes.now _ c.requires.of c.args.event (Ok c.in-Ok.told) (search rules)

pub returns-in-Ok-clause-fits : goal.returns-in-Ok-clause-fits
returns-in-Ok-clause-fits g c =
    let e = c.in-Ok.ensures in
    acted ActsMembers c.shared.inside.members c.args.event (Ok c.in-Ok.told) c.passes.inside.members c.act.new.pass
    (record { of = e.of; same = e.same; own = e.own; history = e.history; legal = e.legal; exact = e.exact })

pub returns-in-Err-clause-stay : goal.returns-in-Err-clause-stay
returns-in-Err-clause-stay g c = members_stay c.args.shared.now c.args.passes.now _ c.requires.of c.args.event (Err c.in-Err.fault) (search rules)

pub returns-in-Err-clause-fits : goal.returns-in-Err-clause-fits
returns-in-Err-clause-fits g c =
    let e = c.in-Err.ensures in
    acted ActsMembers c.shared.inside.members c.args.event (Err c.in-Err.fault) c.passes.inside.members c.act.new.pass
    (record { of = e.of; same = e.same; own = e.own; history = e.history; legal = e.legal; exact = e.exact })
