use Rattle.std.proofs.Common.{rules, Ok, Err}
use Rattle.broker_locks.proofs.Places.{part_stay, part_told_so}
use Rattle.broker_locks.proofs.parts.act_on_part.Goals as goal

pub returns-in-Ok-clause-stay : goal.returns-in-Ok-clause-stay
returns-in-Ok-clause-stay g c =
    part_stay g.D.Disk.seen c.args.shared.now c.args.passes.now _ c.requires.of c.args.shard c.args.event (Ok c.in-Ok.told) (search rules)

pub returns-in-Ok-clause-fits : goal.returns-in-Ok-clause-fits
returns-in-Ok-clause-fits g c = part_told_so g.D.Disk.seen _ c.args.shard c.args.event c.in-Ok.told c.act_at.result _ _ c.in-Ok.is c.act_at.ensures

pub returns-in-Err-clause-stay : goal.returns-in-Err-clause-stay
returns-in-Err-clause-stay g c =
    part_stay g.D.Disk.seen c.args.shared.now c.args.passes.now _ c.requires.of c.args.shard c.args.event (Err c.in-Err.fault) (search rules)
