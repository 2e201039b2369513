use Rattle.std.proofs.Common.{refl}
use Rattle.broker_hosts.proofs.Taking.{get}
use Rattle.broker_hosts.proofs.bay.take_two.Goals as goal

pub returns-clause-ok : goal.returns-clause-ok
returns-clause-ok g c = (
  c.take.new.self,
  get g.B.Bay.seen g.D.Disk.seen c.args.first_name.now c.in-Ok.first c.args.bay.now c.take.new.self
      c.in-Ok.ensures.given c.in-Ok.ensures.is_out c.take.ensures.others c.take.ensures.told c.take.ensures.cause.later c.take.ensures.steady,
  (
    c.take-2.new.self,
    get g.B.Bay.seen g.D.Disk.seen c.args.second_name.now c.in-Ok-take.second c.take.new.self
        c.take-2.new.self c.in-Ok-take.ensures.given c.in-Ok-take.ensures.is_out c.take-2.ensures.others c.take-2.ensures.told c.take-2.ensures.cause.later
        c.take-2.ensures.steady,
    refl,
  ),
)
