use Rattle.std.proofs.Common.{◌≡◌, true, false, inl, inr, ⊎_elim, refl, ap, ◌∙◌, Err, sym, subst, ℕ, List, [], ◌∷◌, ◌++◌}
use Rattle.broker_hosts.specs.declared.fault.CoreOpen.{CoreOpen}
use Rattle.topic_conf.specs.Configs.{ConfigParts}
use Rattle.broker_model.specs.Hosted.{IsOneOf, IsTaken, state_a, state_b}
use Rattle.broker_core.specs.Calls.{OneRose}
use Rattle.broker_hosts.specs.Hosts.{disks_in}
use Rattle.broker_hosts.specs.Bays.{AreOut}
use Rattle.edge_io.specs.Views.{BayView}
use Rattle.share_top.specs.Sessions.{CountRose}
use Rattle.share_top.proofs.Apart.{slot_then}
use Rattle.share_top.proofs.Counts.{count_rose}
use Rattle.share_top.specs.Changes.{bay_change, input_change, output_change}
use Rattle.share_top.specs.declared.status.Status.TheVariants.{Device}
use Rattle.share_top.proofs.Ends.{names_stay, played_over, not_opened, sound_tells, never_stopped, disks_stay, refusal_damaged, refusal_device}
use Rattle.share_top.proofs.top.session.Goals as goal

those_out : {B D : Type 0} (bay_seen : B → BayView D) (names : List (List ℕ)) (bay : B) → AreOut bay_seen names bay
    → (name : List ℕ) → IsOneOf names name → (bay_seen bay).out name ≡ true
those_out bay_seen names bay out = out.those

none_is_out : {B D : Type 0} (bay_seen : B → BayView D) (bay : B) → AreOut bay_seen [] bay → (name : List ℕ) → (bay_seen bay).out name ≡ false
none_is_out bay_seen bay out name = out.others name tt

pub finish-requires : goal.finish-requires
finish-requires g c = those_out g.B.Bay.seen _ c.start.new.bay (subst (λ (l : List (List ℕ)). AreOut g.B.Bay.seen (l ++ state_a ∷ state_b ∷ []) c.start.new.bay)
    (sym (names_stay g.B.D.Disk.seen c.in-Ok.core.hosts.parts c.replay-status.new.core.hosts.parts c.replay-status.ensures.disks.parts))
    c.in-Ok.ensures.taken)

pub returns-in-Ok-clause-back : goal.returns-in-Ok-clause-back
returns-in-Ok-clause-back g c = none_is_out g.B.Bay.seen c.finish.new.bay (c.finish.ensures.none_out (subst (λ (l : List (List ℕ)). AreOut g.B.Bay.seen (l ++ state_a ∷ state_b ∷ []) c.start.new.bay)
    (sym (names_stay g.B.D.Disk.seen c.in-Ok.core.hosts.parts c.replay-status.new.core.hosts.parts c.replay-status.ensures.disks.parts))
    c.in-Ok.ensures.taken))

pub returns-in-Ok-clause-replay : goal.returns-in-Ok-clause-replay
returns-in-Ok-clause-replay g c = inl (played_over g.B.Bay.seen g.B.D.Disk.seen
    (λ d x e. (g.met.B.D.Disk.read_is_image d x e).0) c.args.bay.now c.start.new.bay c.finish.new.bay c.args.conf c.in-Ok.core
    (disks_in c.replay-status.new.core.hosts) c.in-Ok.ensures.open.1 c.in-Ok.ensures.opens c.start.ensures.told c.replay-status.ensures.disks c.finish.ensures.back c.args.summary
    (input_change g.I.Source.left g.I.Source.ended g.I.Source.faults c.args.input.now c.replay-status.new.input)
    (output_change g.O.Sink.held g.O.Sink.faults c.args.output.now c.replay-status.new.output)
    (OneRose g.B.D.Disk.seen (disks_in c.in-Ok.core.hosts) (disks_in c.replay-status.new.core.hosts))
    (CountRose (bay_change g.B.Bay.seen g.B.D.Disk.seen c.args.bay.now c.finish.new.bay) c.args.conf)
    (λ rose. count_rose g.B.Bay.seen g.B.D.Disk.seen c.args.conf c.args.bay.now c.start.new.bay c.finish.new.bay c.finish.ensures.noted
    (disks_in c.in-Ok.core.hosts) (disks_in c.replay-status.new.core.hosts) c.in-Ok.ensures.counts c.replay-status.ensures.disks rose c.finish.ensures.rises c.start.ensures.later)
    c.replay-status.result c.replay-status.ensures.played)

pub returns-in-Ok-clause-recovers : goal.returns-in-Ok-clause-recovers
returns-in-Ok-clause-recovers g c = λ told is.
    let o = c.in-Ok.ensures.opens told.0 told.1 told.2 in
    never_stopped g.B.Bay.seen g.B.D.Disk.seen c.in-Ok.core (disks_in c.replay-status.new.core.hosts) c.args.summary
    (input_change g.I.Source.left g.I.Source.ended g.I.Source.faults c.args.input.now c.replay-status.new.input)
    (output_change g.O.Sink.held g.O.Sink.faults c.args.output.now c.replay-status.new.output) _ c.replay-status.result c.replay-status.ensures.played (inl is) o.0 o.1

pub returns-in-Ok-clause-sound : goal.returns-in-Ok-clause-sound
returns-in-Ok-clause-sound g c = λ sound is.
    let t = sound_tells g.B.Bay.seen g.B.D.Disk.seen c.args.bay.now sound c.args.conf c.are_hosted.ensures in
    let o = c.in-Ok.ensures.opens t.0 t.1 t.2 in
    never_stopped g.B.Bay.seen g.B.D.Disk.seen c.in-Ok.core (disks_in c.replay-status.new.core.hosts) c.args.summary
    (input_change g.I.Source.left g.I.Source.ended g.I.Source.faults c.args.input.now c.replay-status.new.input)
    (output_change g.O.Sink.held g.O.Sink.faults c.args.output.now c.replay-status.new.output) _ c.replay-status.result c.replay-status.ensures.played (inr is) o.0 o.1

pub returns-in-Err-clause-replay : goal.returns-in-Err-clause-replay
returns-in-Err-clause-replay g c = inr (
  refl,
  disks_stay g.B.Bay.seen g.B.D.Disk.seen (c.refuse.result ≡ Device) c.in-Err.fault c.args.bay.now c.start.new.bay
      (refusal_device c.in-Err.fault (output_change g.O.Sink.held g.O.Sink.faults c.args.output.now c.refuse.new.output) c.refuse.result c.refuse.ensures.refusal)
      c.start.ensures.told c.in-Err.ensures.stays c.in-Err.ensures.fed,
  not_opened g.B.Bay.seen g.B.D.Disk.seen
      c.args.bay.now c.start.new.bay c.args.conf (output_change g.O.Sink.held g.O.Sink.faults c.args.output.now c.refuse.new.output) c.in-Err.fault
      (λ name place e. c.start.ensures.damaged name place (c.in-Err.is ∙ ap (λ (f : CoreOpen). Err f) e))
      (λ why. ⊎_elim (λ e. c.start.ensures.device (c.in-Err.is ∙ ap (λ (f : CoreOpen). Err f) e))
      (λ e. inl (c.start.ensures.bay (c.in-Err.is ∙ ap (λ (f : CoreOpen). Err f) e))) why)
      c.refuse.result c.refuse.ensures.refusal,
)

pub returns-in-Err-clause-recovers : goal.returns-in-Err-clause-recovers
returns-in-Err-clause-recovers g c = λ told is.
    let r = refusal_damaged c.in-Err.fault (output_change g.O.Sink.held g.O.Sink.faults c.args.output.now c.refuse.new.output) c.refuse.result c.refuse.ensures.refusal is in
    c.start.ensures.recovers told.0 told.1 told.2 told.3 r.0 r.1 (c.in-Err.is ∙ ap (λ (f : CoreOpen). Err f) r.2)

-- ---- disks that aren't the broker's

pub returns-in-Ok-clause-others : goal.returns-in-Ok-clause-others
returns-in-Ok-clause-others g c = λ name none.
    slot_then g.B.Bay.seen name c.args.bay.now c.start.new.bay c.finish.new.bay (c.start.ensures.others name none)
    (c.finish.ensures.others name (λ taken. none (subst (λ (k : ConfigParts). IsTaken k name) (c.replay-status.ensures.conf ∙ c.in-Ok.ensures.open.1) taken)))
