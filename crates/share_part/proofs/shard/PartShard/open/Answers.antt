use Rattle.std.proofs.Common.{◌≤◌, None, refl, sym, subst, arith, ℕ}
use Rattle.part_log.specs.Logs.{log_in}
use Rattle.part_log.proofs.Keeping.{keeps_sound, keeps_start}
use Rattle.part_log.proofs.Rising.{end_bound}
use Rattle.share_part.specs.Opening.{IsNotOpened}
use Rattle.share_part.specs.declared.opening.PartFault.{PartFault}
use Rattle.share_coord.specs.States.{states_of}
use Rattle.share_part.proofs.Holding.{empty_kept}
use Rattle.share_part.proofs.Opens.{by_log, by_states, left_alone, misplaced, opened, raised_by, unscratched}
use Rattle.share_part.proofs.shard.PartShard.open.Goals as goal

pub returns-in-Err-clause-refused : goal.returns-in-Err-clause-refused
returns-in-Err-clause-refused g c =
    subst (λ (f : PartFault). IsNotOpened g.D.Disk.seen c.args.conf c.args.disks.0 c.args.disks.1 c.args.disks.2
    c.in-Err.disk c.args.disks.1 c.args.disks.2 f) (sym c.fault_of_log-fault.ensures)
    (by_log g.D.Disk.seen g.W.Window.held c.args.conf c.args.disks.0 c.args.disks.1 c.args.disks.2 c.in-Err.disk c.in-Err.fault c.in-Err.ensures.damaged c.in-Err.ensures.recovers c.in-Err.ensures.device)

pub returns-in-Err-open_states-clause-refused : goal.returns-in-Err-open_states-clause-refused
returns-in-Err-open_states-clause-refused g c =
    subst (λ (f : PartFault). IsNotOpened g.D.Disk.seen c.args.conf c.args.disks.0 c.args.disks.1 c.args.disks.2
    c.into_disk.result c.in-Err-open_states.a c.in-Err-open_states.b f) (sym c.fault_of_states-fault.ensures)
    (by_states g.D.Disk.seen g.W.Window.held c.args.conf c.args.disks.0 c.args.disks.1 c.args.disks.2 c.into_disk.result c.in-Err-open_states.a c.in-Err-open_states.b c.in-Err-open_states.fault
    (log_in c.in-Ok.log) c.in-Ok.ensures.opens c.in-Err-open_states.ensures.refused)

pub returns-then-not-are_hosted-clause-refused : goal.returns-then-not-are_hosted-clause-refused
returns-then-not-are_hosted-clause-refused g c = misplaced g.D.Disk.seen g.W.Window.held c.args.conf c.args.disks.0 c.args.disks.1 c.args.disks.2 _ _ _ c.in-Ok.log c.in-Ok-open_states.states c.raise_tables.new.states
    c.in-Ok.ensures.opens (λ content batches at text. c.in-Ok.ensures.recovers content batches at text)
    (raised_by g.D.Disk.seen g.W.Window.held c.args.conf c.args.disks.0 c.args.disks.1 c.args.disks.2 c.start.result c.in-Ok.log.start c.in-Ok-open_states.states c.raise_tables.new.states c.start.ensures.value c.in-Ok-open_states.ensures.opened
    c.raise_tables.ensures.entries (c.raise_tables.ensures.holds None))
    (λ h. let is = c.are_hosted.ensures.1 h in let clash : ⊥ = cc in clash)

pub invariant_of-result : goal.invariant_of-result
invariant_of-result g c = record {
  log_is = keeps_sound g.D.Disk.seen c.in-Ok.log None c.in-Ok.ensures.kept;
  within = keeps_start g.D.Disk.seen c.in-Ok.log None c.in-Ok.ensures.kept;
  hosted = c.are_hosted.ensures.0 c.if-not-are_hosted.false;
  holds = empty_kept g.W.Window.held c.args.conf c.in-Ok.log.batches (states_of c.raise_tables.new.states.entries) _ c.new.ensures.empty;
  moment = omega arith;
  scratch = c.in-Some.ensures;
  room = subst (λ (n : ℕ). 6000 ≤ n) (sym c.raise_tables.ensures.room) c.in-Ok-open_states.ensures.room;
}

pub returns-clause-opened : goal.returns-clause-opened
returns-clause-opened g c = opened g.D.Disk.seen g.W.Window.held c.args.conf c.args.disks.0 c.args.disks.1 c.args.disks.2 _ c.in-Ok-open_states.states refl c.new.ensures.empty refl c.in-Ok.ensures.kept
    c.in-Ok.ensures.opens (λ content batches at text. c.in-Ok.ensures.recovers content batches at text)
    (raised_by g.D.Disk.seen g.W.Window.held c.args.conf c.args.disks.0 c.args.disks.1 c.args.disks.2 c.start.result c.in-Ok.log.start c.in-Ok-open_states.states c.raise_tables.new.states c.start.ensures.value c.in-Ok-open_states.ensures.opened
    c.raise_tables.ensures.entries (c.raise_tables.ensures.holds None))
    (c.are_hosted.ensures.0 c.if-not-are_hosted.false)

pub raise_tables-requires : goal.raise_tables-requires
raise_tables-requires g c =
    let within = keeps_start g.D.Disk.seen c.in-Ok.log None c.in-Ok.ensures.kept in
    let end = end_bound c.in-Ok.log.batches (keeps_sound g.D.Disk.seen c.in-Ok.log None c.in-Ok.ensures.kept).stored in
    omega (arith, within, end, c.start.ensures.value)

pub returns-in_default-clause-refused : goal.returns-in_default-clause-refused
returns-in_default-clause-refused g c = unscratched g.D.Disk.seen g.W.Window.held c.args.conf c.args.disks.0 c.args.disks.1 c.args.disks.2

pub returns-in_default-clause-log : goal.returns-in_default-clause-log
returns-in_default-clause-log g c = left_alone g.D.Disk.seen g.met.D.Disk.only_now c.args.disks.0

pub are_hosted-requires : goal.are_hosted-requires
are_hosted-requires g c = record { sound = keeps_sound g.D.Disk.seen c.in-Ok.log None c.in-Ok.ensures.kept }
