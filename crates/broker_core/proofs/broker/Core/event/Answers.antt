use Rattle.std.proofs.Common.{subst, IfOk}
use Rattle.broker_hosts.specs.Hosts.{parts_of}
use Rattle.broker_core.specs.Cores.{Advances, CoreParts, core_of}
use Rattle.broker_hosts.proofs.Naming.{parts_many}
use Rattle.broker_core.proofs.Events.{still_whole}
use Rattle.broker_core.proofs.broker.Core.event.Goals as goal

pub advance-requires-clause-hosted : goal.advance-requires-clause-hosted
advance-requires-clause-hosted g c = parts_many c.self.inside.conf (parts_of c.self.inside.hosts) c.self.invariant

pub invariant_of-self : goal.invariant_of-self
invariant_of-self g c = still_whole g.D.Disk.seen c.self.inside.conf (parts_of c.self.inside.hosts) (parts_of c.advance.new.hosts)
    c.self.invariant c.advance.ensures.stays c.advance.ensures.held

pub returns-clause-ok : goal.returns-clause-ok
returns-clause-ok g c = subst (λ (x : CoreParts g.row.D.Denot). IfOk c.advance.result (λ outcomes. Advances g.D.Disk.seen x c.args.event.now outcomes.items
    (core_of c.self.inside.conf c.advance.new.clients.entries (parts_of c.advance.new.hosts)))) c.self.view_is c.advance.ensures.ok
