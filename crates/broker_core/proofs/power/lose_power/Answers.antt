use Rattle.std.proofs.Common.{◌≡◌, inl, refl, sym, ap, ◌∙◌, subst, Err, rules}
use Rattle.share_members.specs.Groups.{Memberships}
use Rattle.broker_model.specs.Machine.{no_members}
use Rattle.broker_core.specs.declared.fault.CoreFault.TheVariants.{NoMemory, Reopen}
use Rattle.broker_hosts.specs.declared.fault.CoreOpen.TheVariants.{Device}
use Rattle.broker_hosts.specs.Hosts.{AreCarried, IsHeld, IsOpen, disks_in, parts_of}
use Rattle.broker_core.proofs.Leading.{go_on_same}
use Rattle.broker_hosts.proofs.Taking.{err_at, err_same}
use Rattle.broker_core.proofs.Losing.{Stopped, all_on, all_reopened, held_of_open, held_open_foreign, hosted_stay, hosted_stopped, none_stopped, opened_held, opened_open, parts_stopped, parts_stopped_on, state_stopped, state_stopped_on, stopped_held, stopped_never, stopped_rose}
use Rattle.broker_core.proofs.power.lose_power.Goals as goal

pub returns-in_err-members-clause-stopped : goal.returns-in_err-members-clause-stopped
returns-in_err-members-clause-stopped g c =
    let err : c.from_residual.result ≡ Err NoMemory = search rules in
    err_at (λ e. (s : _) → AreCarried g.D.Disk.seen (parts_of c.args.hosts.now) s → Stopped g.D.Disk.seen (parts_of c.args.hosts.now) s (parts_of c.args.hosts.now) e)
    c.from_residual.result NoMemory err (none_stopped g.D.Disk.seen (parts_of c.args.hosts.now))

pub returns-in_err-members-clause-disks : goal.returns-in_err-members-clause-disks
returns-in_err-members-clause-disks g c = go_on_same g.D.Disk.seen (disks_in (parts_of c.args.hosts.now))

pub returns-in_err-members-clause-held : goal.returns-in_err-members-clause-held
returns-in_err-members-clause-held g c = record {
  parts = held_of_open g.D.Disk.seen c.args.hosts.now.parts.items c.requires.open.parts;
  foreign = held_open_foreign g.D.Disk.seen c.args.hosts.now.foreign c.requires.open.foreign;
}

pub returns-in_err-lose_parts-clause-stopped : goal.returns-in_err-lose_parts-clause-stopped
returns-in_err-lose_parts-clause-stopped g c =
    let err : c.from_residual-in_err-lose_parts.result ≡ Err c.in_err-lose_parts.field-0.0 = search rules in
    err_at (λ e. (s : _) → AreCarried g.D.Disk.seen (parts_of c.args.hosts.now) s → Stopped g.D.Disk.seen (parts_of c.args.hosts.now) s (record { parts = c.lose_parts.new.parts.items; members = c.args.hosts.now.members.members; foreign = c.args.hosts.now.foreign }) e)
    c.from_residual-in_err-lose_parts.result c.in_err-lose_parts.field-0.0 err (parts_stopped g.D.Disk.seen c.args.choice c.in_err-lose_parts.field-0.0 (parts_of c.args.hosts.now) (record { parts = c.lose_parts.new.parts.items; members = c.args.hosts.now.members.members; foreign = c.args.hosts.now.foreign }) c.in_err-lose_parts.ensures.stopped refl)

pub returns-in_err-lose_parts-clause-device : goal.returns-in_err-lose_parts-clause-device
returns-in_err-lose_parts-clause-device g c = λ e.
    (let err : c.from_residual-in_err-lose_parts.result ≡ Err c.in_err-lose_parts.field-0.0 = search rules in
    inl (stopped_rose g.D.Disk.seen c.args.choice c.in_err-lose_parts.field-0.0 c.args.hosts.now.parts.items c.lose_parts.new.parts.items c.in_err-lose_parts.ensures.stopped (err_same c.in_err-lose_parts.field-0.0 (Reopen Device) (sym err ∙ e))))

pub returns-in_err-lose_parts-clause-never : goal.returns-in_err-lose_parts-clause-never
returns-in_err-lose_parts-clause-never g c = λ f e.
    (let err : c.from_residual-in_err-lose_parts.result ≡ Err c.in_err-lose_parts.field-0.0 = search rules in
    stopped_never g.D.Disk.seen c.args.choice c.in_err-lose_parts.field-0.0 c.args.hosts.now.parts.items c.lose_parts.new.parts.items c.in_err-lose_parts.ensures.stopped f (err_same c.in_err-lose_parts.field-0.0 (Reopen f) (sym err ∙ e)))

pub returns-in_err-lose_parts-clause-disks : goal.returns-in_err-lose_parts-clause-disks
returns-in_err-lose_parts-clause-disks g c = parts_stopped_on g.D.Disk.seen c.args.choice c.in_err-lose_parts.field-0.0 (parts_of c.args.hosts.now) (record { parts = c.lose_parts.new.parts.items; members = c.args.hosts.now.members.members; foreign = c.args.hosts.now.foreign }) c.in_err-lose_parts.ensures.stopped refl

pub returns-in_err-lose_parts-clause-held : goal.returns-in_err-lose_parts-clause-held
returns-in_err-lose_parts-clause-held g c = record {
  parts = stopped_held g.D.Disk.seen c.args.choice c.in_err-lose_parts.field-0.0 c.args.hosts.now.parts.items c.lose_parts.new.parts.items c.requires.open.parts c.in_err-lose_parts.ensures.stopped;
  foreign = held_open_foreign g.D.Disk.seen c.args.hosts.now.foreign c.requires.open.foreign;
}

pub returns-in_err-lose_parts-clause-stays : goal.returns-in_err-lose_parts-clause-stays
returns-in_err-lose_parts-clause-stays g c = record {
  hosted = hosted_stopped g.D.Disk.seen c.args.choice c.in_err-lose_parts.field-0.0 c.args.hosts.now.parts.items c.lose_parts.new.parts.items c.in_err-lose_parts.ensures.stopped;
  topics = refl;
}

pub returns-in_err-lose_foreign-clause-stopped : goal.returns-in_err-lose_foreign-clause-stopped
returns-in_err-lose_foreign-clause-stopped g c =
    let err : c.from_residual-in_err-lose_foreign.result ≡ Err c.in_err-lose_foreign.field-0.0 = search rules in
    err_at (λ e. (s : _) → AreCarried g.D.Disk.seen (parts_of c.args.hosts.now) s → Stopped g.D.Disk.seen (parts_of c.args.hosts.now) s (record { parts = c.lose_parts.new.parts.items; members = c.args.hosts.now.members.members; foreign = c.lose_foreign.new.slot }) e)
    c.from_residual-in_err-lose_foreign.result c.in_err-lose_foreign.field-0.0 err (state_stopped g.D.Disk.seen c.args.choice c.in_err-lose_foreign.field-0.0 (parts_of c.args.hosts.now) (record { parts = c.lose_parts.new.parts.items; members = c.args.hosts.now.members.members; foreign = c.lose_foreign.new.slot }) c.in_ok-lose_parts.ensures.ok c.in_err-lose_foreign.ensures.stopped)

pub returns-in_err-lose_foreign-clause-disks : goal.returns-in_err-lose_foreign-clause-disks
returns-in_err-lose_foreign-clause-disks g c = state_stopped_on g.D.Disk.seen c.args.choice c.in_err-lose_foreign.field-0.0 (parts_of c.args.hosts.now) (record { parts = c.lose_parts.new.parts.items; members = c.args.hosts.now.members.members; foreign = c.lose_foreign.new.slot }) c.in_ok-lose_parts.ensures.ok c.in_err-lose_foreign.ensures.stopped

pub returns-in_err-lose_foreign-clause-held : goal.returns-in_err-lose_foreign-clause-held
returns-in_err-lose_foreign-clause-held g c =
    let p = c.in_err-lose_foreign.ensures.stopped in
    record {
      parts = opened_held g.D.Disk.seen c.args.choice c.args.hosts.now.parts.items c.lose_parts.new.parts.items c.in_ok-lose_parts.ensures.ok;
      foreign = subst IsHeld (sym p.new_is) tt;
    }

pub returns-in_err-lose_foreign-clause-stays : goal.returns-in_err-lose_foreign-clause-stays
returns-in_err-lose_foreign-clause-stays g c = record {
  hosted = hosted_stay g.D.Disk.seen c.args.choice c.args.hosts.now.parts.items c.lose_parts.new.parts.items c.in_ok-lose_parts.ensures.ok;
  topics = refl;
}

pub returns-clause-ok : goal.returns-clause-ok
returns-clause-ok g c =
    let members = c.in_ok-members.ensures ∙ ap no_members (sym c.requires.topics) in
    λ s k. all_reopened g.D.Disk.seen c.args.choice (parts_of c.args.hosts.now) (record { parts = c.lose_parts.new.parts.items; members = c.in_ok-members.members; foreign = c.lose_foreign.new.slot }) c.in_ok-lose_parts.ensures.ok c.in_ok-lose_foreign.ensures.ok c.requires.apart members s k

pub returns-clause-disks : goal.returns-clause-disks
returns-clause-disks g c = all_on g.D.Disk.seen c.args.choice (parts_of c.args.hosts.now) (record { parts = c.lose_parts.new.parts.items; members = c.in_ok-members.members; foreign = c.lose_foreign.new.slot }) c.in_ok-lose_parts.ensures.ok c.in_ok-lose_foreign.ensures.ok

pub returns-clause-open : goal.returns-clause-open
returns-clause-open g c =
    let p = c.in_ok-lose_foreign.ensures.ok in
    record {
      parts = opened_open g.D.Disk.seen c.args.choice c.args.hosts.now.parts.items c.lose_parts.new.parts.items c.in_ok-lose_parts.ensures.ok;
      foreign = subst IsOpen (sym p.new_is) tt;
    }

pub returns-clause-held : goal.returns-clause-held
returns-clause-held g c =
    let p = c.in_ok-lose_foreign.ensures.ok in
    record {
      parts = opened_held g.D.Disk.seen c.args.choice c.args.hosts.now.parts.items c.lose_parts.new.parts.items c.in_ok-lose_parts.ensures.ok;
      foreign = subst IsHeld (sym p.new_is) tt;
    }

pub returns-clause-stays : goal.returns-clause-stays
returns-clause-stays g c = record {
  hosted = hosted_stay g.D.Disk.seen c.args.choice c.args.hosts.now.parts.items c.lose_parts.new.parts.items c.in_ok-lose_parts.ensures.ok;
  topics = ap (λ (m : Memberships). m.topics) c.in_ok-members.ensures ∙ sym c.requires.topics;
}
