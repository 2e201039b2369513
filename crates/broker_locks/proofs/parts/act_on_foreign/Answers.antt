use Rattle.std.proofs.Common.{refl, Ok, Err}
use Rattle.broker_locks.proofs.Places.{foreign_stay, foreign_told_so}
use Rattle.broker_locks.proofs.parts.act_on_foreign.Goals as goal

pub returns-in-Ok-clause-acts : goal.returns-in-Ok-clause-acts
returns-in-Ok-clause-acts g c =
    let e = c.in-Ok.ensures in
    rw (← c.shared.view_is) (rw (← c.passes.view_is) (record { foreign = record { of = e.of; same = e.same; own = e.own; history = e.history; legal = e.legal; exact = e.exact }; parts = refl; members = refl }))

pub returns-in-Err-clause-acts : goal.returns-in-Err-clause-acts
returns-in-Err-clause-acts g c =
    let e = c.in-Err.ensures in
    rw (← c.shared.view_is) (rw (← c.passes.view_is) (record { foreign = record { of = e.of; same = e.same; own = e.own; history = e.history; legal = e.legal; exact = e.exact }; parts = refl; members = refl }))

pub returns-in-Ok-clause-stay : goal.returns-in-Ok-clause-stay
returns-in-Ok-clause-stay g c = foreign_stay g.D.Disk.seen c.args.shared.now c.args.passes.now _ c.requires.of c.args.event (Ok c.in-Ok.told) (returns-in-Ok-clause-acts g c)

pub returns-in-Err-clause-stay : goal.returns-in-Err-clause-stay
returns-in-Err-clause-stay g c = foreign_stay g.D.Disk.seen c.args.shared.now c.args.passes.now _ c.requires.of c.args.event (Err c.in-Err.fault) (returns-in-Err-clause-acts g c)

pub returns-in-Ok-clause-fits : goal.returns-in-Ok-clause-fits
returns-in-Ok-clause-fits g c =
    let e = c.in-Ok.ensures in
    foreign_told_so g.D.Disk.seen c.shared.inside.foreign c.args.event c.in-Ok.told c.passes.inside.foreign c.act.new.pass
    (record { of = e.of; same = e.same; own = e.own; history = e.history; legal = e.legal; exact = e.exact })
