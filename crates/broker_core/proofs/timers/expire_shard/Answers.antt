use Rattle.std.proofs.Common.{refl, ◌∙◌, length}
use Rattle.broker_model.specs.Shards.{fault_of_expiry}
use Rattle.broker_hosts.specs.Hosts.{parts_of}
use Rattle.broker_core.proofs.Leading.{halts_so, leads_halts, leads_to}
use Rattle.broker_core.proofs.Stepping.{ok_weaker, on_err}
use Rattle.broker_core.proofs.Telling.{expiries_told}
use Rattle.broker_core.proofs.timers.expire_shard.Goals as goal

pub returns-in_err-answer-clause-stopped : goal.returns-in_err-answer-clause-stopped
returns-in_err-answer-clause-stopped g c = on_err c.from_residual.result
    (λ s k. halts_so g.D.Disk.seen (parts_of c.expire_at.new.hosts) s _ _
    (λ a call b d. (fault_of_expiry c.args.shard d.0, (d.1.0, d.0, d.1.1, d.1.2, refl)))
    (c.in_err-answer.ensures.stopped s k))

pub returns-clause-ok : goal.returns-clause-ok
returns-clause-ok g c = ok_weaker _ _ c.told.result
    (λ outcomes e s k. leads_to g.D.Disk.seen (parts_of c.args.hosts.now) (parts_of c.expire_at.new.hosts) s _ _
    (λ a call b d. (d.0, c.in_ok-answer.answer, d.1, d.2, e ∙ c.fault_of_expiry.ensures))
    (c.in_ok-answer.ensures.ok s k))
    c.told.ensures

pub returns-clause-stopped : goal.returns-clause-stopped
returns-clause-stopped g c = on_err c.told.result
    (λ s k. leads_halts g.D.Disk.seen (parts_of c.args.hosts.now) (parts_of c.expire_at.new.hosts) s _ _
    (λ a call b d. (fault_of_expiry c.args.shard c.in_ok-answer.answer, (d.0, c.in_ok-answer.answer, d.1, d.2, refl)))
    (c.in_ok-answer.ensures.ok s k))

pub returns-clause-told : goal.returns-clause-told
returns-clause-told g c = ok_weaker _ _ c.told.result
    (λ outcomes e topics few. expiries_told topics c.args.shard (length c.args.hosts.now.parts.items) c.in_ok-answer.answer outcomes.items few
    c.in_ok-answer.ensures.there (e ∙ c.fault_of_expiry.ensures))
    c.told.ensures
