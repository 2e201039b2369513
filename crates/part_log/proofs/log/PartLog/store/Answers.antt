use Rattle.std.proofs.Common.{◌⊎◌, ◌+◌, ◌++◌, ◌∷◌, [], arith, inl, inr, ⊎_elim, sym, ap, subst, ◌∙◌, length, refl, Err, None, Some}
use Rattle.std.proofs.Common.{IsOk, rules}
use Rattle.edge_io.specs.Armed.{StarvesUnarmed}
use Rattle.edge_io.specs.Causes.{Rose}
use Rattle.edge_io.specs.Moments.{LeavesOnly}
use Rattle.gate_journal.specs.Frames.{IsBeforeOrAfter, IsWithPending, frame_in}
use Rattle.gate_journal.specs.Journals.{IsAtRest, Stands}
use Rattle.share_model.specs.declared.fault.StoreFault.{StoreFault}
use Rattle.share_model.specs.declared.fault.StoreFault.TheVariants.{Device, Full}
use Rattle.share_model.specs.declared.fault.LogFault.TheVariants.{Store}
use Rattle.gate_journal.specs.declared.writer.Writer.{Writer}
use Rattle.part_log.specs.Batches.{batch_in}
use Rattle.part_log.specs.Holding.{batches_of, bytes_in}
use Rattle.part_log.proofs.Ending.{failed_end, next_end}
use Rattle.part_log.specs.Starts.LogWrite.{Adds}
use Rattle.part_log.specs.Logs.{IsWithin, LogParts, MayFollow, frames_of, log_in}
use Rattle.part_log.proofs.Frames.{bounds}
use Rattle.part_log.proofs.Holding.{batches_stored, holds_still, longer, stored_holds}
use Rattle.part_log.proofs.Keeping.{added, fault_is, full_else, has_room, moved, ok_room, pending_frame, store_is, unmoved, unwritten}
use Rattle.part_log.proofs.Noting.{may_push}
use Rattle.part_log.proofs.Parts.{refilled}
use Rattle.part_log.proofs.log.PartLog.store.Goals as goal

pub invariant_of-self : goal.invariant_of-self
invariant_of-self g c =
    holds_still g.D.Disk.seen c.self.inside.seen.frames c.self.inside.index c.self.inside.journal c.self.inside.start c.self.inside.end c.self.invariant
    c.reserve.new.self c.self.inside.journal c.reserve.ensures.same.0 c.reserve.ensures.same.1 (λ fs p s. (p, s)) (λ told. told)

pub invariant_of-self-in-Err-append : goal.invariant_of-self-in-Err-append
invariant_of-self-in-Err-append g c =
    holds_still g.D.Disk.seen c.self.inside.seen.frames c.self.inside.index c.self.inside.journal c.self.inside.start c.self.inside.end c.self.invariant
    c.reserve.new.self c.append.new.self c.reserve.ensures.same.0 c.reserve.ensures.same.1
    (λ fs p s. ⊎_elim (λ (was : Stands g.D.Disk.seen c.append.new.self fs p). (p, was))
    (λ (now : Stands g.D.Disk.seen c.append.new.self fs (Some (frame_in c.deref_mut.result.now))). (Some (frame_in c.deref_mut.result.now), now))
    (c.in-Err-append.ensures.failed fs p s))
    (λ told. sym c.in-Err-append.ensures.disk.runs.told ∙ told)

pub invariant_of-self-in-Ok : goal.invariant_of-self-in-Ok
invariant_of-self-in-Ok g c =
    let frame = frame_in c.args.buffer.items in
    let kept = c.inner-frame.ensures ∙ ap frame_in c.deref.ensures.value
    ∙ refilled c.append.new.buffer c.args.buffer.items c.args.buffer.len (c.append.auto.buffer ∙ c.deref_mut.ensures.len)
    ∙ c.append.ensures.buffer.frame ∙ ap frame_in c.deref_mut.ensures.value in
    let follows = subst (λ (v : LogParts g.row.D.Denot). MayFollow v.batches (batch_in frame)) (sym c.self.view_is) c.requires.follows in
    stored_holds g.D.Disk.seen c.self.inside.seen.frames c.self.inside.index c.self.inside.journal c.self.inside.start c.self.inside.end c.self.invariant
    c.push.new.self c.append.new.self c.args.base c.args.last _ c.last_gate-place.result _ c.inner-frame.result.now frame _ _ kept follows c.requires.base c.requires.last
    refl c.with-self-inside.ensures refl c.in_default-push.ensures.ok c.reserve.ensures.same.0 (c.push.ensures.cached ∙ c.reserve.ensures.same.1)
    c.last_gate-place.ensures.place
    (λ fs p s. subst (λ bytes. IsAtRest g.D.Disk.seen c.append.new.self (fs ++ frame_in bytes ∷ [])) c.deref_mut.ensures.value (c.in-Ok.ensures.ok.rests fs p s))
    (λ told. sym c.in-Ok.ensures.disk.runs.told ∙ told)

pub returns-in-Err-clause-any_moment : goal.returns-in-Err-clause-any_moment
returns-in-Err-clause-any_moment g c = λ pending k.
    subst (λ (v : LogParts g.row.D.Denot). LeavesOnly g.D.Disk.seen c.args.self.now.journal.disk v.journal.disk (IsWithin (log_in c.args.self.now) pending (Adds (batch_in (frame_in c.args.buffer.items))))) (sym c.self.view_is)
    (unmoved g.D.Disk.seen g.met.D.Disk.only_now c.args.self.now (Adds (batch_in (frame_in c.args.buffer.items))) pending k)

pub returns-in-Ok-clause-ok : goal.returns-in-Ok-clause-ok
returns-in-Ok-clause-ok g c =
    let frame = frame_in c.args.buffer.items in
    let kept = c.inner-frame.ensures ∙ ap frame_in c.deref.ensures.value
    ∙ refilled c.append.new.buffer c.args.buffer.items c.args.buffer.len (c.append.auto.buffer ∙ c.deref_mut.ensures.len)
    ∙ c.append.ensures.buffer.frame ∙ ap frame_in c.deref_mut.ensures.value in
    let batches = batches_stored c.self.inside.seen.frames _ c.last_gate-place.result c.inner-frame.result.now frame
    (longer c.args.self.now.batches frame c.requires.follows) kept c.with-self-inside.ensures in
    added g.D.Disk.seen c.args.self.now _ (batch_in frame) c.requires.follows
    (batches ∙ ap (λ (v : LogParts g.row.D.Denot). v.batches ++ batch_in frame ∷ []) c.self.view_is)
    (ap (λ (v : LogParts g.row.D.Denot). v.start) c.self.view_is)
    (next_end g.D.Disk.seen c.self.inside.journal c.append.new.self (bytes_in c.self.inside.seen.frames) c.self.invariant.pending None frame c.self.invariant.stands
    (subst (λ bytes. Stands g.D.Disk.seen c.append.new.self (bytes_in c.self.inside.seen.frames ++ frame_in bytes ∷ []) None) c.deref_mut.ensures.value
    (c.in-Ok.ensures.ok.rests (bytes_in c.self.inside.seen.frames) c.self.invariant.pending c.self.invariant.stands).stands)
    ∙ ap (λ (v : LogParts g.row.D.Denot). v.journal.end + (length frame + 5)) c.self.view_is)
    (λ frames pending s.
    subst (λ bytes. IsAtRest g.D.Disk.seen c.append.new.self (frames ++ frame_in bytes ∷ [])) c.deref_mut.ensures.value
    (c.in-Ok.ensures.ok.rests frames pending (subst (λ (v : LogParts g.row.D.Denot). Stands g.D.Disk.seen v.journal frames pending) (sym c.self.view_is) s)))

pub returns-in-Ok-clause-any_moment : goal.returns-in-Ok-clause-any_moment
returns-in-Ok-clause-any_moment g c = λ pending k.
    moved g.D.Disk.seen g.met.D.Disk.only_now c.args.self.now (Adds (batch_in (frame_in c.args.buffer.items))) pending k c.append.new.self.disk c.requires.follows
    (subst (λ (v : LogParts g.row.D.Denot). LeavesOnly g.D.Disk.seen v.journal.disk c.append.new.self.disk
    (λ x. IsWithPending (frames_of k.writes) (pending_frame pending) x ⊎ IsBeforeOrAfter (frames_of k.writes) (frame_in c.args.buffer.items) x)) c.self.view_is
    (subst (λ bytes. LeavesOnly g.D.Disk.seen c.self.inside.journal.disk c.append.new.self.disk
    (λ x. IsWithPending (frames_of k.writes) (pending_frame pending) x ⊎ IsBeforeOrAfter (frames_of k.writes) (frame_in bytes) x)) c.deref_mut.ensures.value
    (c.append.ensures.any_moment (frames_of k.writes) (pending_frame pending)
    (subst (λ (v : LogParts g.row.D.Denot). Stands g.D.Disk.seen v.journal (frames_of k.writes) (pending_frame pending)) (sym c.self.view_is) k.stands))))

pub returns-clause-any_moment : goal.returns-clause-any_moment
returns-clause-any_moment g c = λ pending k.
    moved g.D.Disk.seen g.met.D.Disk.only_now c.args.self.now (Adds (batch_in (frame_in c.args.buffer.items))) pending k c.append.new.self.disk c.requires.follows
    (subst (λ (v : LogParts g.row.D.Denot). LeavesOnly g.D.Disk.seen v.journal.disk c.append.new.self.disk
    (λ x. IsWithPending (frames_of k.writes) (pending_frame pending) x ⊎ IsBeforeOrAfter (frames_of k.writes) (frame_in c.args.buffer.items) x)) c.self.view_is
    (subst (λ bytes. LeavesOnly g.D.Disk.seen c.self.inside.journal.disk c.append.new.self.disk
    (λ x. IsWithPending (frames_of k.writes) (pending_frame pending) x ⊎ IsBeforeOrAfter (frames_of k.writes) (frame_in bytes) x)) c.deref_mut.ensures.value
    (c.append.ensures.any_moment (frames_of k.writes) (pending_frame pending)
    (subst (λ (v : LogParts g.row.D.Denot). Stands g.D.Disk.seen v.journal (frames_of k.writes) (pending_frame pending)) (sym c.self.view_is) k.stands))))

pub returns-clause-device : goal.returns-clause-device
returns-clause-device g c = λ is.
    let fault = store_is c.in-Err-append.fault Device is in
    let failed = ap Err fault in (
      unwritten g.D.Disk.seen c.args.self.now _ (Adds (batch_in (frame_in c.args.buffer.items))) c.requires.follows
          (ap (λ (v : LogParts g.row.D.Denot). v.batches) c.self.view_is)
          (ap (λ (v : LogParts g.row.D.Denot). v.start) c.self.view_is)
          (failed_end g.D.Disk.seen c.self.inside.journal c.append.new.self (bytes_in c.self.inside.seen.frames) c.self.invariant.pending _ c.self.invariant.stands
          (c.in-Err-append.ensures.failed (bytes_in c.self.inside.seen.frames) c.self.invariant.pending c.self.invariant.stands)
          ∙ ap (λ (v : LogParts g.row.D.Denot). v.journal.end) c.self.view_is)
          (λ frames pending s. subst (λ bytes. Stands g.D.Disk.seen c.append.new.self frames pending ⊎ Stands g.D.Disk.seen c.append.new.self frames (Some (frame_in bytes))) c.deref_mut.ensures.value
          (c.in-Err-append.ensures.failed frames pending (subst (λ (v : LogParts g.row.D.Denot). Stands g.D.Disk.seen v.journal frames pending) (sym c.self.view_is) s))),
      subst (λ (v : LogParts g.row.D.Denot). Rose (g.D.Disk.seen v.journal.disk).faults (g.D.Disk.seen c.append.new.self.disk).faults) c.self.view_is (c.in-Err-append.ensures.disk.rose failed),
      subst (λ (v : LogParts g.row.D.Denot). StarvesUnarmed g.D.Disk.seen v.journal.disk c.append.new.self.disk) c.self.view_is (c.in-Err-append.ensures.disk.memory failed),
    )

pub returns-clause-full : goal.returns-clause-full
returns-clause-full g c = λ end is.
    let full = (c.in-Err-append.ensures.full.exact end).0 (ap Err (store_is c.in-Err-append.fault (Full end) is)) in
    let len = ap length c.deref_mut.ensures.value in
    let at = ap (λ (v : LogParts g.row.D.Denot). v.journal.end) c.self.view_is in
    (omega (arith, full.1, len, at), full.0 ∙ at)

pub returns-in-Ok-clause-room : goal.returns-in-Ok-clause-room
returns-in-Ok-clause-room g c =
    let at = ap (λ (v : LogParts g.row.D.Denot). v.journal.end) c.self.view_is in
    inr (inl (omega (arith, ok_room c.in-Ok.field-0 _ _ c.in-Ok.ensures.full.exact, at, ap length c.deref_mut.ensures.value)))

pub returns-clause-room : goal.returns-clause-room
returns-clause-room g c =
    let at = ap (λ (v : LogParts g.row.D.Denot). v.journal.end) c.self.view_is in
    ⊎_elim (λ le. inr (inl (omega (arith, le, at, ap length c.deref_mut.ensures.value))))
    (λ is. inr (inr (ap (λ (f : StoreFault). Err (Store f)) (fault_is c.in-Err-append.fault _ is ∙ ap Full at)))) (has_room (Err c.in-Err-append.fault) _ _ c.in-Err-append.ensures.full.exact)

pub push-requires-clause-order : goal.push-requires-clause-order
push-requires-clause-order g c = omega (arith, c.requires.base, c.requires.last, (bounds (batch_in (frame_in c.args.buffer.items)) c.requires.follows.stored).order)

pub push-requires-clause-behind : goal.push-requires-clause-behind
push-requires-clause-behind g c =
    let follows = subst (λ (v : LogParts g.row.D.Denot). MayFollow v.batches (batch_in (frame_in c.args.buffer.items))) (sym c.self.view_is) c.requires.follows in
    omega (
      arith,
      c.requires.base,
      may_push c.self.inside.seen.frames c.self.inside.index c.reserve.new.self c.self.inside.start c.self.inside.end (batch_in (frame_in c.args.buffer.items))
          c.self.invariant.indexed c.reserve.ensures.same.0 follows,
    )

pub unreachable-requires : goal.unreachable-requires
unreachable-requires g c =
    let ok : IsOk c.push.result = c.push.ensures.spared c.in_default.ensures.ok in
    let no = subst IsOk c.in-Err-push.is ok in
    search (rules, no)

pub returns-clause-unchanged : goal.returns-clause-unchanged
returns-clause-unchanged g c = full_else c.in-Err-append.fault
    (λ end is. ap (λ (j : Writer g.row.D.Denot). record { batches = batches_of c.self.inside.seen.frames; start = c.self.inside.start; journal = j }) (c.in-Err-append.ensures.full.same end (ap Err is)).0 ∙ c.self.view_is)
