use Rattle.std.proofs.Common.{subst}
use Rattle.broker_model.specs.Shards.{PartCall}
use Rattle.broker_shards.specs.declared.part.PartAsk.TheVariants as asks
use Rattle.broker_shards.specs.declared.part.PartTold.{PartTold}
use Rattle.broker_core.specs.PartCalls.{IsCall}
use Rattle.broker_core.specs.Calls.{DidPart, LeadsBy}
use Rattle.broker_hosts.specs.Hosts.{parts_of}
use Rattle.broker_core.proofs.Leading.{halts_so}
use Rattle.broker_core.proofs.Parting.{expiry_done, expiry_tells}
use Rattle.broker_core.proofs.Stepping.{on_err}
use Rattle.broker_core.proofs.timers.expire_at.Goals as goal

pub returns-in_err-done-clause-stopped : goal.returns-in_err-done-clause-stopped
returns-in_err-done-clause-stopped g c = on_err c.from_residual.result
    (λ s k. halts_so g.D.Disk.seen (parts_of c.act_at.new.hosts) s _ _
    (λ a call b d. expiry_done _ _ c.args.now c.args.shard d.0 a call b d.1 d.2)
    (c.in_err-done.ensures.stopped s k))

pub returns-clause-ok : goal.returns-clause-ok
returns-clause-ok g c =
    let did = c.in_ok-done.ensures.ok in
    subst (λ (q : PartCall). LeadsBy g.D.Disk.seen (parts_of c.args.hosts.now) (parts_of c.act_at.new.hosts)
    (λ counts ends. DidPart counts ends c.args.now c.args.shard q))
    (expiry_tells did.0 c.in-Expire.answer (subst (λ (x : PartTold). IsCall asks.Expire x did.0) c.in-Expire.is did.1))
    did.2
