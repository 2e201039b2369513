use Rattle.conn_core.specs.Turning.{turn}
use Rattle.broker_hosts.specs.Hosts.{disks_in, parts_of}
use Rattle.broker_core.specs.Calls.{ends_over, counts_in}
use Rattle.broker_core.proofs.Stepping.{on_err}
use Rattle.broker_core.proofs.Clients.{does_turn}
use Rattle.broker_core.proofs.Leading.{halts_so, halts_still, leads_to, stays_same}
use Rattle.broker_core.proofs.client.step.Goals as goal

pub returns-in_err-outcomes-clause-stopped : goal.returns-in_err-outcomes-clause-stopped
returns-in_err-outcomes-clause-stopped g c = on_err c.from_residual-in_err-outcomes.result
    (λ s k. halts_so g.D.Disk.seen
    (parts_of c.done.new.hosts) s _ _
    (λ a call b h. (
      h.0,
      h.1,
      does_turn
          (counts_in g.D.Disk.seen (disks_in (parts_of c.args.hosts.now)) (disks_in (parts_of c.done.new.hosts))) (ends_over (parts_of c.args.hosts.now) (parts_of c.done.new.hosts))
          c.args.id c.args.now (turn c.args.conf.now c.args.conn.now) c.in_ok-next.next c.next_part.new.self h.1 h.0
          c.in_ok-next.ensures.next a call b h.2,
    ))
    (c.in_err-outcomes.ensures.stopped s k))

pub returns-clause-ok : goal.returns-clause-ok
returns-clause-ok g c = λ s k. leads_to g.D.Disk.seen
    (parts_of c.args.hosts.now) (parts_of c.done.new.hosts) s _ _
    (λ a call b h. does_turn
    (counts_in g.D.Disk.seen (disks_in (parts_of c.args.hosts.now)) (disks_in (parts_of c.done.new.hosts))) (ends_over (parts_of c.args.hosts.now) (parts_of c.done.new.hosts))
    c.args.id c.args.now (turn c.args.conf.now c.args.conn.now) c.in_ok-next.next c.next_part.new.self _ _
    c.in_ok-next.ensures.next a call b h)
    (c.in_ok-outcomes.ensures.ok s k)

pub returns-in_err-next-clause-stopped : goal.returns-in_err-next-clause-stopped
returns-in_err-next-clause-stopped g c = on_err c.from_residual.result (λ s k. halts_still g.D.Disk.seen (parts_of c.args.hosts.now) s _ k)

pub returns-in_err-next-clause-stays : goal.returns-in_err-next-clause-stays
returns-in_err-next-clause-stays g c = stays_same g.D.Disk.seen (parts_of c.args.hosts.now) c.requires.open
