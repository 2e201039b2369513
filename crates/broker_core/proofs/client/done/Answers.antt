use Rattle.std.proofs.Common.{ap, ◌∙◌, ◌++◌}
use Rattle.broker_model.specs.Steps.{replies_to}
use Rattle.broker_hosts.specs.Hosts.{disks_in, parts_of}
use Rattle.broker_core.specs.Calls.{ends_over, counts_in}
use Rattle.broker_core.proofs.Stepping.{ok_weaker, on_err, on_err_weaker}
use Rattle.broker_core.proofs.Clients.{asks_next, replies_told}
use Rattle.broker_core.proofs.Leading.{halts_so, halts_still, leads_to, stays_same}
use Rattle.broker_core.proofs.client.done.Goals as goal

pub returns-in-Ask-clause-ok : goal.returns-in-Ask-clause-ok
returns-in-Ask-clause-ok g c = ok_weaker _ _ c.ask.result
    (λ outcomes h s k. leads_to g.D.Disk.seen
    (parts_of c.args.hosts.now) (parts_of c.ask.new.hosts) s _ _
    (λ a call b does. asks_next
    (counts_in g.D.Disk.seen (disks_in (parts_of c.args.hosts.now)) (disks_in (parts_of c.ask.new.hosts))) (ends_over (parts_of c.args.hosts.now) (parts_of c.ask.new.hosts))
    c.args.id c.args.now c.in-Ask.part c.args.next c.args.conn.now c.ask.new.conn outcomes.items c.in-Ask.is a call b does)
    (h s k))
    c.ask.ensures.ok

pub returns-in-Ask-clause-stopped : goal.returns-in-Ask-clause-stopped
returns-in-Ask-clause-stopped g c = on_err_weaker c.ask.result
    (λ h s k. halts_so g.D.Disk.seen
    (parts_of c.ask.new.hosts) s _ _
    (λ a call b does. (
      does.0,
      does.1,
      asks_next
          (counts_in g.D.Disk.seen (disks_in (parts_of c.args.hosts.now)) (disks_in (parts_of c.ask.new.hosts))) (ends_over (parts_of c.args.hosts.now) (parts_of c.ask.new.hosts))
          c.args.id c.args.now c.in-Ask.part c.args.next c.args.conn.now does.1 does.0 c.in-Ask.is a call b does.2,
    ))
    (h s k))
    c.ask.ensures.stopped

pub returns-in_err-replies-in-Ready-clause-stopped : goal.returns-in_err-replies-in-Ready-clause-stopped
returns-in_err-replies-in-Ready-clause-stopped g c = on_err c.from_residual.result (λ s k. halts_still g.D.Disk.seen (parts_of c.args.hosts.now) s _ k)

pub returns-in_err-replies-in-Ready-clause-stays : goal.returns-in_err-replies-in-Ready-clause-stays
returns-in_err-replies-in-Ready-clause-stays g c = stays_same g.D.Disk.seen (parts_of c.args.hosts.now) c.requires.open

pub returns-in_ok-replies-in-Ready-clause-told : goal.returns-in_ok-replies-in-Ready-clause-told
returns-in_ok-replies-in-Ready-clause-told g c = replies_told c.args.conf.now.topics c.args.id c.args.conn.now _
    (c.in_ok-replies-in-Ready.ensures.told ∙ ap (λ l. l ++ replies_to c.args.id c.args.conn.now) c.new-outcomes.ensures.items)

pub returns-in_ok-replies-in-Ready-clause-stays : goal.returns-in_ok-replies-in-Ready-clause-stays
returns-in_ok-replies-in-Ready-clause-stays g c = stays_same g.D.Disk.seen (parts_of c.args.hosts.now) c.requires.open

pub returns-in-Closed-clause-stopped : goal.returns-in-Closed-clause-stopped
returns-in-Closed-clause-stopped g c = on_err c.one.result (λ s k. halts_still g.D.Disk.seen (parts_of c.args.hosts.now) s _ k)

pub returns-in-Closed-clause-stays : goal.returns-in-Closed-clause-stays
returns-in-Closed-clause-stays g c = stays_same g.D.Disk.seen (parts_of c.args.hosts.now) c.requires.open

pub returns-in-Idle-clause-stays : goal.returns-in-Idle-clause-stays
returns-in-Idle-clause-stays g c = stays_same g.D.Disk.seen (parts_of c.args.hosts.now) c.requires.open
