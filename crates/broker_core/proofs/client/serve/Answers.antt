use Rattle.std.proofs.Common.{◌≡◌, Some, cond, refl, sym, ap, ◌∙◌, subst, rules}
use Rattle.std.specs.Map.{set_value, remove_entry}
use Rattle.conn_core.specs.Conns.{is_gone}
use Rattle.broker_model.specs.Machine.{named, conn_at, left}
use Rattle.broker_model.specs.Steps.{Serves}
use Rattle.broker_core.specs.Calls.{counts_in, ends_over}
use Rattle.broker_hosts.specs.Hosts.{disks_in, parts_of}
use Rattle.broker_core.proofs.Stepping.{on_err, left_at}
use Rattle.broker_core.proofs.Leading.{halts_so, leads_to, stays_same}
use Rattle.broker_core.proofs.client.serve.Goals as goal

pub returns-in_err-outcomes-clause-stopped : goal.returns-in_err-outcomes-clause-stopped
returns-in_err-outcomes-clause-stopped g c =
    let es = c.args.clients.now.entries in
    let found : conn_at c.args.id es ≡ Some c.in-Some.conn.now = search rules in
    on_err c.from_residual.result
    (λ s k. halts_so g.D.Disk.seen
    (parts_of c.step.new.hosts) s _ _
    (λ a call b h. (
      h.0,
      record { connections = left c.args.id h.1 es; shards = b },
      refl,
      subst (λ o. Serves c.args.conf.now (counts_in g.D.Disk.seen (disks_in (parts_of c.args.hosts.now)) (disks_in (parts_of c.step.new.hosts))) (ends_over (parts_of c.args.hosts.now) (parts_of c.step.new.hosts))
          (record { connections = es; shards = a }) c.args.id c.args.now o call h.0 (record { connections = left c.args.id h.1 es; shards = b })) (sym found)
          (record { after = h.1; does = h.2; leaves = refl }),
    ))
    (c.in_err-outcomes.ensures.stopped s k))

pub returns-clause-ok : goal.returns-clause-ok
returns-clause-ok g c =
    let es = c.args.clients.now.entries in
    let after = c.step.new.conn in
    let kept = (c.get_mut.follows.lender after).entries in
    let wrote : kept ≡ set_value (named c.args.id) es after = (c.get_mut.follows.holds after).0 in
    let found : conn_at c.args.id es ≡ Some c.in-Some.conn.now = search rules in
    let gone : c.in_ok-outcomes.gone ≡ is_gone after = search rules in
    let went : c.let_go.new.clients.entries ≡ cond (is_gone after) (remove_entry (named c.args.id) kept) kept = search rules in
    let leaves = went ∙ ap (λ l. cond (is_gone after) (remove_entry (named c.args.id) l) l) wrote ∙ left_at c.args.id after c.in-Some.conn.now es found in
    λ s k. leads_to g.D.Disk.seen
    (parts_of c.args.hosts.now) (parts_of c.step.new.hosts) s _ _
    (λ a call b h.
    subst (λ o. Serves c.args.conf.now (counts_in g.D.Disk.seen (disks_in (parts_of c.args.hosts.now)) (disks_in (parts_of c.step.new.hosts))) (ends_over (parts_of c.args.hosts.now) (parts_of c.step.new.hosts))
    (record { connections = es; shards = a }) c.args.id c.args.now o call c.in_ok-outcomes.outcomes.items (record { connections = c.let_go.new.clients.entries; shards = b }))
    (sym found) (record { after = after; does = h; leaves = leaves }))
    (c.in_ok-outcomes.ensures.ok s k)

pub returns-in_default-clause-stays : goal.returns-in_default-clause-stays
returns-in_default-clause-stays g c = stays_same g.D.Disk.seen (parts_of c.args.hosts.now) c.requires.open
