use Rattle.std.proofs.Common.{◌∙◌, sym}
use Rattle.broker_model.specs.Shards.ShardCall.{CallPart}
use Rattle.broker_hosts.specs.Hosts.{parts_of}
use Rattle.broker_core.proofs.Leading.{halts_so, leads_to}
use Rattle.broker_core.proofs.Parting.{answers_part, some_answer}
use Rattle.broker_core.proofs.Stepping.{on_err}
use Rattle.broker_core.proofs.hosts.ask_part.Goals as goal

pub returns-in_err-told-clause-stopped : goal.returns-in_err-told-clause-stopped
returns-in_err-told-clause-stopped g c = on_err c.from_residual.result
    (λ part asks s k. halts_so g.D.Disk.seen (parts_of c.act_at.new.hosts) s _ _
    (λ a call b d.
    let found = some_answer c.args.shard c.args.ask d.0 part d.1 asks in
    (found.0, (CallPart c.args.shard d.2.0 d.0, d.2.1, found.1, d.2.2)))
    (c.in_err-told.ensures.stopped s k))

pub returns-clause-ok : goal.returns-clause-ok
returns-clause-ok g c =
    let did = c.in_ok-told.ensures.ok in
    λ part asks s k. leads_to g.D.Disk.seen (parts_of c.args.hosts.now) (parts_of c.act_at.new.hosts) s _ _
    (λ a call b d. (
      CallPart c.args.shard d.0 did.0,
      d.1,
      answers_part c.args.shard c.args.ask c.in_ok-told.told did.0 part c.in-Some.answer did.1 asks (sym c.answer_of.ensures ∙ c.in-Some.is),
      d.2,
    ))
    (did.2 s k)
