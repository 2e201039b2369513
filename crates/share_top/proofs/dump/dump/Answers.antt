use Rattle.std.proofs.Common.{◌≡◌, inl, inr, ⊎_elim, refl, ap, ◌∙◌, Err, subst}
use Rattle.topic_conf.specs.Configs.{ConfigParts}
use Rattle.broker_model.specs.Hosted.{IsTaken}
use Rattle.broker_hosts.specs.declared.fault.CoreOpen.{CoreOpen}
use Rattle.broker_hosts.specs.Hosts.{disks_in}
use Rattle.broker_core.proofs.Leading.{go_on_same, still_all}
use Rattle.share_top.specs.declared.status.Status.TheVariants.{Device}
use Rattle.share_top.specs.Changes.{bay_change, output_change}
use Rattle.share_top.specs.Dumping.{IsDumped}
use Rattle.share_top.specs.Sessions.{OverBay}
use Rattle.share_top.specs.Slots.{core_text}
use Rattle.share_top.proofs.Apart.{slot_then}
use Rattle.share_top.proofs.Dumps.{is_written, none_of_disks, text_is}
use Rattle.share_top.proofs.Ends.{disks_stay, dumped, not_opened, refusal_damaged, refusal_device}
use Rattle.share_top.proofs.dump.dump.Goals as goal

pub finish-requires : goal.finish-requires
finish-requires g c = c.in-Ok.ensures.taken.those

pub returns-in-Ok-clause-back : goal.returns-in-Ok-clause-back
returns-in-Ok-clause-back g c = λ name. (c.finish.ensures.none_out c.in-Ok.ensures.taken).others name tt

pub returns-in-Ok-clause-dump : goal.returns-in-Ok-clause-dump
returns-in-Ok-clause-dump g c = inl (is_written c.write_states-written.result c.status_of.result
    (output_change g.O.Sink.held g.O.Sink.faults c.args.output.now c.write_states-written.new.output) (core_text c.in-Ok.core.hosts)
    (λ Says. OverBay (bay_change g.B.Bay.seen g.B.D.Disk.seen c.args.bay.now c.finish.new.bay) c.args.conf (IsDumped c.args.conf Says))
    c.write_states-written.ensures
    (λ Says says. dumped g.B.Bay.seen g.B.D.Disk.seen (λ d x e. (g.met.B.D.Disk.read_is_image d x e).0) c.args.bay.now c.start.new.bay c.finish.new.bay
    c.args.conf c.in-Ok.core (disks_in c.in-Ok.core.hosts) c.in-Ok.ensures.open.1 c.in-Ok.ensures.opens c.start.ensures.told
    (go_on_same g.B.D.Disk.seen (disks_in c.in-Ok.core.hosts)) c.finish.ensures.back Says
    (λ m k. (
      still_all g.B.D.Disk.seen c.in-Ok.core.hosts m.shards k.shards,
      subst Says (text_is g.B.D.Disk.seen c.in-Ok.core m k) says,
    )) (λ m name. refl))
    c.status_of.ensures.ok c.status_of.ensures.write c.status_of.ensures.memory)

pub returns-in-Ok-clause-recovers : goal.returns-in-Ok-clause-recovers
returns-in-Ok-clause-recovers g c = λ told.
    (none_of_disks c.write_states-written.result c.status_of.result c.status_of.ensures.ok c.status_of.ensures.write c.status_of.ensures.memory).0

pub returns-in-Ok-clause-sound : goal.returns-in-Ok-clause-sound
returns-in-Ok-clause-sound g c = λ sound.
    (none_of_disks c.write_states-written.result c.status_of.result c.status_of.ensures.ok c.status_of.ensures.write c.status_of.ensures.memory).1

pub returns-in-Ok-clause-others : goal.returns-in-Ok-clause-others
returns-in-Ok-clause-others g c = λ name none.
    slot_then g.B.Bay.seen name c.args.bay.now c.start.new.bay c.finish.new.bay (c.start.ensures.others name none)
    (c.finish.ensures.others name (λ taken. none (subst (λ (k : ConfigParts). IsTaken k name) c.in-Ok.ensures.open.1 taken)))

pub returns-in-Err-clause-dump : goal.returns-in-Err-clause-dump
returns-in-Err-clause-dump g c = inr (
  disks_stay g.B.Bay.seen g.B.D.Disk.seen (c.refuse.result ≡ Device) c.in-Err.fault c.args.bay.now c.start.new.bay
      (refusal_device c.in-Err.fault (output_change g.O.Sink.held g.O.Sink.faults c.args.output.now c.refuse.new.output) c.refuse.result c.refuse.ensures.refusal)
      c.start.ensures.told c.in-Err.ensures.stays c.in-Err.ensures.fed,
  not_opened g.B.Bay.seen g.B.D.Disk.seen
      c.args.bay.now c.start.new.bay c.args.conf (output_change g.O.Sink.held g.O.Sink.faults c.args.output.now c.refuse.new.output) c.in-Err.fault
      (λ name place e. c.start.ensures.damaged name place (c.in-Err.is ∙ ap (λ (f : CoreOpen). Err f) e))
      (λ why. ⊎_elim (λ e. c.start.ensures.device (c.in-Err.is ∙ ap (λ (f : CoreOpen). Err f) e))
      (λ e. inl (c.start.ensures.bay (c.in-Err.is ∙ ap (λ (f : CoreOpen). Err f) e))) why)
      c.refuse.result c.refuse.ensures.refusal,
)

pub returns-in-Err-clause-recovers : goal.returns-in-Err-clause-recovers
returns-in-Err-clause-recovers g c = λ told is.
    let r = refusal_damaged c.in-Err.fault (output_change g.O.Sink.held g.O.Sink.faults c.args.output.now c.refuse.new.output) c.refuse.result c.refuse.ensures.refusal is in
    c.start.ensures.recovers told.0 told.1 told.2 told.3 r.0 r.1 (c.in-Err.is ∙ ap (λ (f : CoreOpen). Err f) r.2)
