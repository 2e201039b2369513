use Rattle.std.proofs.Common.{refl, sym, subst, ℕ, List}
use Rattle.conn_core.specs.Conns.{ConnParts}
use Rattle.broker_model.specs.Machine.{Machine}
use Rattle.broker_hosts.specs.declared.fault.CoreOpen.TheVariants.{Damaged, Device, Bay}
use Rattle.broker_hosts.specs.Bays.{IsFirst}
use Rattle.broker_core.specs.Cores.{IsCore, core_of, state_of}
use Rattle.broker_hosts.specs.Hosts.{parts_of}
use Rattle.broker_hosts.proofs.Taking.{err_same}
use Rattle.broker_core.proofs.broker.Core.start.Goals as goal

pub returns-in-Err-clause-damaged : goal.returns-in-Err-clause-damaged
returns-in-Err-clause-damaged g c = λ disk place e. c.in-Err.ensures.refused.damaged disk place (err_same c.in-Err.fault (Damaged disk place) e)

pub returns-in-Err-clause-recovers : goal.returns-in-Err-clause-recovers
returns-in-Err-clause-recovers g c = λ contents was tells stand disk place e.
    c.in-Err.ensures.refused.recovers contents was tells stand disk place (err_same c.in-Err.fault (Damaged disk place) e)

pub returns-in-Err-clause-bay : goal.returns-in-Err-clause-bay
returns-in-Err-clause-bay g c = λ e. c.in-Err.ensures.refused.bay (err_same c.in-Err.fault Bay e)

pub returns-in-Err-clause-device : goal.returns-in-Err-clause-device
returns-in-Err-clause-device g c = λ e. c.in-Err.ensures.refused.device (err_same c.in-Err.fault Device e)

pub returns-in-Err-clause-sound : goal.returns-in-Err-clause-sound
returns-in-Err-clause-sound g c = λ sound.
    let never = c.in-Err.ensures.refused.sound sound in
    (λ e. never.0 (err_same c.in-Err.fault Bay e), λ e. never.1 (err_same c.in-Err.fault Device e))

pub returns-in-Ok-clause-opens : goal.returns-in-Ok-clause-opens
returns-in-Ok-clause-opens g c = λ contents was tells.
    let o = c.in-Ok.ensures.opened.opens contents was tells in
    subst (λ (es : List (ℕ × ConnParts)). (m : Machine) × IsCore g.D.Disk.seen (core_of c.args.conf es (parts_of c.in-Ok.hosts)) m
    × IsFirst c.args.conf contents was (state_of g.D.Disk.seen m (core_of c.args.conf es (parts_of c.in-Ok.hosts)))) (sym c.new.ensures.empty)
    (o.0, record { connections = o.2.opens.nobody; shards = o.1 }, o.2)

pub returns-in-Ok-clause-open : goal.returns-in-Ok-clause-open
returns-in-Ok-clause-open g c = (c.in-Ok.ensures.opened.are_open, refl)
