use Rattle.std.proofs.Common.{sym, ap, ◌∙◌, subst}
use Rattle.broker_hosts.specs.Hosts.{HostsParts, IsWhole}
use Rattle.broker_locks.specs.Opening.{hosts_of}
use Rattle.broker_locks.proofs.open.lock_hosts.Goals as goal

pub returns-clause-locks : goal.returns-clause-locks
returns-clause-locks g c = ap hosts_of c.in-Ok-lock_shards.ensures.locks ∙ c.in-Ok.ensures

pub returns-clause-whole : goal.returns-clause-whole
returns-clause-whole g c = (
  c.in-Ok-lock_shards.ensures.conf,
  subst (λ (h : HostsParts g.row.D.Denot). IsWhole c.args.conf h) (sym (ap hosts_of c.in-Ok-lock_shards.ensures.locks ∙ c.in-Ok.ensures)) c.requires.whole,
)
