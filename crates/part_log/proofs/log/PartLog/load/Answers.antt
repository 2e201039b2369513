use Rattle.std.proofs.Common.{◌≡◌, ◌<◌, ◌≤◌, ◌^◌, arith, refl, sym, ap, subst, ◌∙◌, ℕ, Err, length}
use Rattle.rec_batch.specs.declared.form.Form.TheVariants.{Stored}
use Rattle.share_model.specs.Logs.{end_of}
use Rattle.share_model.specs.declared.fault.LogFault.TheVariants.{Behind}
use Rattle.part_log.specs.Batches.{batch_in}
use Rattle.part_log.specs.Logs.{AddsOnce, MayFollow}
use Rattle.part_log.proofs.Adding.{adds, bad, behind, hungry}
use Rattle.part_log.proofs.Frames.{faulty_none, stored_by, view_bound, view_last}
use Rattle.part_log.proofs.Placing.{stored_there}
use Rattle.part_log.proofs.Refusing.{behind_is, not_refused, refused_so}
use Rattle.edge_io.proofs.Runs.{runs_none}
use Rattle.part_log.proofs.log.PartLog.load.Goals as goal

pub returns-in-Err-clause-batch : goal.returns-in-Err-clause-batch
returns-in-Err-clause-batch g c = refused_so Stored c.args.batch.now c.in-Err.fault c.in-Err.ensures.refused

pub returns-then-view-end-clause-batch : goal.returns-then-view-end-clause-batch
returns-then-view-end-clause-batch g c = not_refused Stored c.args.batch.now c.in-Ok.view c.in-Ok.ensures.accepted _ (λ fault e. let never : ⊥ = cc in never)

pub returns-then-view-end-clause-behind : goal.returns-then-view-end-clause-behind
returns-then-view-end-clause-behind g c = λ end. (
  λ e. (
    sym (behind_is c.end-end.result end e) ∙ c.end-end.ensures.end,
    stored_by c.args.batch.now c.in-Ok.ensures.accepted.1.0 c.in-Ok.ensures.accepted.1.1,
    omega (arith, c.if-view-end.true, c.end-end.ensures.end, c.in-Ok.ensures.accepted.0.base),
  ),
  λ h. ap (λ (n : ℕ). Err (Behind n)) (c.end-end.ensures.end ∙ sym h.0),
)

pub returns-in_default-clause-batch : goal.returns-in_default-clause-batch
returns-in_default-clause-batch g c = not_refused Stored c.args.batch.now c.in-Ok.view c.in-Ok.ensures.accepted _ (λ fault e. let never : ⊥ = cc in never)

pub overflow_add-view : goal.overflow_add-view
overflow_add-view g c = omega (arith, view_bound c.args.batch.now c.in-Ok.view c.in-Ok.ensures.accepted, c.from.ensures)

pub store-requires-clause-follows : goal.store-requires-clause-follows
store-requires-clause-follows g c =
    let from : end_of c.args.self.now.batches ≤ c.in-Ok.view.base = omega (arith, c.if-view-end.false, c.end-end.ensures.end) in
    let there = stored_there c.args.batch.now c.in-Ok.view c.in-Ok.ensures.accepted c.args.self.now.batches _ from refl in
    subst (λ f. MayFollow c.args.self.now.batches (batch_in f)) (sym c.in-Ok-buffer_of.ensures.frame) there.follows

pub returns-clause-fits : goal.returns-clause-fits
returns-clause-fits g c = λ end e.
    let from : end_of c.args.self.now.batches ≤ c.in-Ok.view.base = omega (arith, c.if-view-end.false, c.end-end.ensures.end) in
    (stored_there c.args.batch.now c.in-Ok.view c.in-Ok.ensures.accepted c.args.self.now.batches _ from refl).follows

pub returns-clause-batch : goal.returns-clause-batch
returns-clause-batch g c = not_refused Stored c.args.batch.now c.in-Ok.view c.in-Ok.ensures.accepted c.store.result c.store.ensures.no_batch

pub returns-clause-behind : goal.returns-clause-behind
returns-clause-behind g c = λ end. (
  λ e. absurd (c.store.ensures.no_behind end e),
  λ h. absurd (omega (arith, h.2, c.in-Ok.ensures.accepted.0.base, c.if-view-end.false, c.end-end.ensures.end)),
)

pub returns-in-Err-clause-once : goal.returns-in-Err-clause-once
returns-in-Err-clause-once g c = bad g.D.Disk.seen g.met.D.Disk.only_now
    c.args.self.now (batch_in c.args.batch.now) c.in-Err.fault

pub returns-then-view-end-clause-once : goal.returns-then-view-end-clause-once
returns-then-view-end-clause-once g c = behind g.D.Disk.seen g.met.D.Disk.only_now
    c.args.self.now (batch_in c.args.batch.now) c.end-end.result

pub returns-in_default-clause-once : goal.returns-in_default-clause-once
returns-in_default-clause-once g c = hungry g.D.Disk.seen g.met.D.Disk.only_now
    c.args.self.now (batch_in c.args.batch.now)

pub returns-clause-once : goal.returns-clause-once
returns-clause-once g c =
    let frame = c.in-Ok-buffer_of.ensures.frame in
    let accepted = c.in-Ok.ensures.accepted in
    subst (λ f. AddsOnce g.D.Disk.seen c.args.self.now c.store.new.self (batch_in f) c.store.result) frame
    (adds g.D.Disk.seen c.args.self.now c.store.new.self _ _ c.in-Ok.view.base c.store.result
    (subst (λ f. (batch_in f).last < 2 ^ 62) (sym frame) (omega (arith, view_bound c.args.batch.now c.in-Ok.view accepted, view_last c.args.batch.now c.in-Ok.view accepted)))
    (omega (arith, c.in-Ok-buffer_of.ensures.len, ap length frame))
    (subst (λ f. c.in-Ok.view.base ≡ (batch_in f).base) (sym frame) accepted.0.base)
    c.store.ensures.ok c.store.ensures.quiet c.store.ensures.base c.store.ensures.device c.store.ensures.unchanged c.store.ensures.full c.store.ensures.room c.store.ensures.any_moment)

pub returns-in-Err-clause-runs : goal.returns-in-Err-clause-runs
returns-in-Err-clause-runs g c = runs_none g.D.Disk.seen c.args.self.now.journal.disk

pub returns-then-view-end-clause-runs : goal.returns-then-view-end-clause-runs
returns-then-view-end-clause-runs g c = runs_none g.D.Disk.seen c.args.self.now.journal.disk

pub returns-in_default-clause-runs : goal.returns-in_default-clause-runs
returns-in_default-clause-runs g c = runs_none g.D.Disk.seen c.args.self.now.journal.disk

pub returns-in_default-clause-behind : goal.returns-in_default-clause-behind
returns-in_default-clause-behind g c = λ end. (
  λ e. let never : ⊥ = cc in absurd never,
  λ h. absurd (omega (arith, h.2, c.in-Ok.ensures.accepted.0.base, c.if-view-end.false, c.end-end.ensures.end)),
)

pub returns-clause-runs : goal.returns-clause-runs
returns-clause-runs g c = c.store.ensures.runs

pub returns-in-Err-clause-behind : goal.returns-in-Err-clause-behind
returns-in-Err-clause-behind g c = λ end. (
  λ e. let never : ⊥ = cc in absurd never,
  λ h. absurd (faulty_none c.args.batch.now c.in-Err.fault c.in-Err.ensures.refused (batch_in c.args.batch.now) refl h.1),
)
