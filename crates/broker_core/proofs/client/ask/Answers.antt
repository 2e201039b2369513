use Rattle.std.proofs.Common.{refl, ap, ◌∙◌, ◌++◌}
use Rattle.conn_core.specs.Conns.{without_replies}
use Rattle.conn_core.specs.Turning.{conn_after_answer}
use Rattle.broker_model.specs.Steps.{replies_to}
use Rattle.broker_core.specs.Calls.{counts_in, ends_over, faults_in, faults_of_visit}
use Rattle.broker_hosts.specs.Hosts.{disks_in, parts_of}
use Rattle.broker_core.proofs.Clients.{part_done, step_told}
use Rattle.broker_core.proofs.Stepping.{on_err}
use Rattle.broker_core.proofs.Leading.{halts_so, leads_halts, leads_to}
use Rattle.broker_core.proofs.client.ask.Goals as goal

pub returns-in_err-answer-clause-stopped : goal.returns-in_err-answer-clause-stopped
returns-in_err-answer-clause-stopped g c = on_err c.from_residual.result
    (λ s k. halts_so g.D.Disk.seen
    (parts_of c.act.new.hosts) s _ _
    (λ a call b h.
    let conn = conn_after_answer h.0 c.args.conn.now in (
      faults_in c.args.part h.0 ++ replies_to c.args.id conn,
      without_replies conn,
      part_done (counts_in g.D.Disk.seen (disks_in (parts_of c.args.hosts.now)) (disks_in (parts_of c.act.new.hosts))) (ends_over (parts_of c.args.hosts.now) (parts_of c.act.new.hosts))
          c.args.id c.args.now c.args.part h.0 c.args.conn.now _ _ refl refl a call b h.1,
    ))
    (c.in_err-answer.ensures.stopped s k))

pub returns-in_err-outcomes-clause-stopped : goal.returns-in_err-outcomes-clause-stopped
returns-in_err-outcomes-clause-stopped g c = on_err c.from_residual-in_err-outcomes.result
    (λ s k.
    let conn = conn_after_answer c.in_ok-answer.answer c.args.conn.now in
    leads_halts g.D.Disk.seen
    (parts_of c.args.hosts.now) (parts_of c.act.new.hosts) s _ _
    (λ a call b h. (
      faults_in c.args.part c.in_ok-answer.answer ++ replies_to c.args.id conn,
      without_replies conn,
      part_done (counts_in g.D.Disk.seen (disks_in (parts_of c.args.hosts.now)) (disks_in (parts_of c.act.new.hosts))) (ends_over (parts_of c.args.hosts.now) (parts_of c.act.new.hosts))
          c.args.id c.args.now c.args.part c.in_ok-answer.answer c.args.conn.now _ _ refl refl a call b h,
    )) (c.in_ok-answer.ensures.ok s k))

pub returns-in_err-give-clause-stopped : goal.returns-in_err-give-clause-stopped
returns-in_err-give-clause-stopped g c = on_err c.from_residual-in_err-give.result
    (λ s k.
    let conn = conn_after_answer c.in_ok-answer.answer c.args.conn.now in
    leads_halts g.D.Disk.seen
    (parts_of c.args.hosts.now) (parts_of c.act.new.hosts) s _ _
    (λ a call b h. (
      faults_in c.args.part c.in_ok-answer.answer ++ replies_to c.args.id conn,
      without_replies conn,
      part_done (counts_in g.D.Disk.seen (disks_in (parts_of c.args.hosts.now)) (disks_in (parts_of c.act.new.hosts))) (ends_over (parts_of c.args.hosts.now) (parts_of c.act.new.hosts))
          c.args.id c.args.now c.args.part c.in_ok-answer.answer c.args.conn.now _ _ refl refl a call b h,
    )) (c.in_ok-answer.ensures.ok s k))

pub returns-in_err-replies-clause-stopped : goal.returns-in_err-replies-clause-stopped
returns-in_err-replies-clause-stopped g c = on_err c.from_residual-in_err-replies.result
    (λ s k.
    let conn = conn_after_answer c.in_ok-answer.answer c.args.conn.now in
    leads_halts g.D.Disk.seen
    (parts_of c.args.hosts.now) (parts_of c.act.new.hosts) s _ _
    (λ a call b h. (
      faults_in c.args.part c.in_ok-answer.answer ++ replies_to c.args.id conn,
      without_replies conn,
      part_done (counts_in g.D.Disk.seen (disks_in (parts_of c.args.hosts.now)) (disks_in (parts_of c.act.new.hosts))) (ends_over (parts_of c.args.hosts.now) (parts_of c.act.new.hosts))
          c.args.id c.args.now c.args.part c.in_ok-answer.answer c.args.conn.now _ _ refl refl a call b h,
    )) (c.in_ok-answer.ensures.ok s k))

pub returns-clause-ok : goal.returns-clause-ok
returns-clause-ok g c = λ s k. leads_to g.D.Disk.seen
    (parts_of c.args.hosts.now) (parts_of c.act.new.hosts) s _ _
    (λ a call b h. part_done (counts_in g.D.Disk.seen (disks_in (parts_of c.args.hosts.now)) (disks_in (parts_of c.act.new.hosts))) (ends_over (parts_of c.args.hosts.now) (parts_of c.act.new.hosts))
    c.args.id c.args.now c.args.part c.in_ok-answer.answer c.args.conn.now _ _
    (c.in_ok-replies.ensures.told ∙ ap (λ l. l ++ replies_to c.args.id c.give.new.self) (c.in_ok-outcomes.ensures ∙ c.fault_of_visit.ensures ∙ ap (λ v. faults_of_visit v c.in_ok-answer.answer) c.visit_of-visit.ensures)
    ∙ ap (λ conn. faults_in c.args.part c.in_ok-answer.answer ++ replies_to c.args.id conn) c.in_ok-give.ensures.answer)
    (c.in_ok-replies.ensures.conn ∙ ap without_replies c.in_ok-give.ensures.answer)
    a call b h) (c.in_ok-answer.ensures.ok s k)

pub returns-clause-told : goal.returns-clause-told
returns-clause-told g c = step_told c.args.conf.now.topics c.args.id _ c.args.part c.in_ok-answer.answer c.give.new.self _ c.requires.hosted c.in_ok-answer.ensures.there
    (c.in_ok-replies.ensures.told ∙ ap (λ l. l ++ replies_to c.args.id c.give.new.self) (c.in_ok-outcomes.ensures ∙ c.fault_of_visit.ensures ∙ ap (λ v. faults_of_visit v c.in_ok-answer.answer) c.visit_of-visit.ensures))
