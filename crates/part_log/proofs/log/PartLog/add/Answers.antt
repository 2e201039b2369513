use Rattle.std.proofs.Common.{◌≡◌, ◌≤◌, ◌^◌, arith, sym, ap, subst, ◌∙◌, ℕ, length}
use Rattle.std.proofs.lemmas.Result.{IfOk-weaker}
use Rattle.gate_journal.specs.Frames.{frame_in}
use Rattle.rec_batch.specs.declared.form.Form.TheVariants.{Produced}
use Rattle.rec_batch.specs.Placing.{placed}
use Rattle.share_model.specs.Logs.{end_of}
use Rattle.part_log.specs.Batches.{batch_in}
use Rattle.part_log.specs.Logs.{AddsOnce, MayFollow}
use Rattle.part_log.proofs.Adding.{adds, bad, hungry, past}
use Rattle.part_log.proofs.Placing.{past_there, placed_there, same_size}
use Rattle.part_log.proofs.Refusing.{not_refused, refused_so}
use Rattle.edge_io.proofs.Runs.{runs_none}
use Rattle.part_log.proofs.log.PartLog.add.Goals as goal

pub returns-in-Err-clause-batch : goal.returns-in-Err-clause-batch
returns-in-Err-clause-batch g c = refused_so Produced c.args.batch.now c.in-Err.fault c.in-Err.ensures.refused

pub returns-in_default-clause-batch : goal.returns-in_default-clause-batch
returns-in_default-clause-batch g c = not_refused Produced c.args.batch.now c.in-Ok.view c.in-Ok.ensures.accepted _ (λ fault e. let never : ⊥ = cc in never)

pub returns-in_default-placed_copy-clause-batch : goal.returns-in_default-placed_copy-clause-batch
returns-in_default-placed_copy-clause-batch g c = not_refused Produced c.args.batch.now c.in-Ok.view c.in-Ok.ensures.accepted _ (λ fault e. let never : ⊥ = cc in never)

pub store-requires-clause-follows : goal.store-requires-clause-follows
store-requires-clause-follows g c =
    let there = placed_there c.args.batch.now c.in-Ok.view c.in-Ok.ensures.accepted c.args.self.now.batches c.end-base.result c.in-Some.last c.end-base.ensures.end c.in-Some.ensures.0 c.in-Some.ensures.1 in
    subst (λ f. MayFollow c.args.self.now.batches (batch_in f)) (sym c.in-Ok-placed_copy.ensures.0) there.follows

pub store-requires-clause-base : goal.store-requires-clause-base
store-requires-clause-base g c =
    let there = placed_there c.args.batch.now c.in-Ok.view c.in-Ok.ensures.accepted c.args.self.now.batches c.end-base.result c.in-Some.last c.end-base.ensures.end c.in-Some.ensures.0 c.in-Some.ensures.1 in
    subst (λ f. c.end-base.result ≡ (batch_in f).base) (sym c.in-Ok-placed_copy.ensures.0) there.base_is

pub store-requires-clause-last : goal.store-requires-clause-last
store-requires-clause-last g c =
    let there = placed_there c.args.batch.now c.in-Ok.view c.in-Ok.ensures.accepted c.args.self.now.batches c.end-base.result c.in-Some.last c.end-base.ensures.end c.in-Some.ensures.0 c.in-Some.ensures.1 in
    subst (λ f. c.in-Some.last ≡ (batch_in f).last) (sym c.in-Ok-placed_copy.ensures.0) there.last_is

pub returns-clause-batch : goal.returns-clause-batch
returns-clause-batch g c = not_refused Produced c.args.batch.now c.in-Ok.view c.in-Ok.ensures.accepted c.store.result c.store.ensures.no_batch

pub returns-in-Err-clause-once : goal.returns-in-Err-clause-once
returns-in-Err-clause-once g c = bad g.D.Disk.seen g.met.D.Disk.only_now
    c.args.self.now (batch_in (placed (end_of c.args.self.now.batches) c.args.batch.now)) c.in-Err.fault

pub returns-in_default-clause-once : goal.returns-in_default-clause-once
returns-in_default-clause-once g c = past g.D.Disk.seen g.met.D.Disk.only_now
    c.args.self.now (batch_in (placed (end_of c.args.self.now.batches) c.args.batch.now)) c.end-base.result c.end-base.ensures.end
    (subst (λ (n : ℕ). 2 ^ 62 ≤ (batch_in (placed n c.args.batch.now)).last) c.end-base.ensures.end
    (past_there c.args.batch.now c.in-Ok.view c.in-Ok.ensures.accepted c.end-base.result c.end-base.ensures.below c.in_default.ensures))

pub returns-in_default-placed_copy-clause-once : goal.returns-in_default-placed_copy-clause-once
returns-in_default-placed_copy-clause-once g c = hungry g.D.Disk.seen g.met.D.Disk.only_now
    c.args.self.now (batch_in (placed (end_of c.args.self.now.batches) c.args.batch.now))

pub returns-clause-once : goal.returns-clause-once
returns-clause-once g c =
    let frame = c.in-Ok-placed_copy.ensures.0 in
    let there = placed_there c.args.batch.now c.in-Ok.view c.in-Ok.ensures.accepted c.args.self.now.batches c.end-base.result c.in-Some.last c.end-base.ensures.end c.in-Some.ensures.0 c.in-Some.ensures.1 in
    let base : c.end-base.result ≡ (batch_in (frame_in c.in-Ok-placed_copy.buffer.items)).base = subst (λ f. c.end-base.result ≡ (batch_in f).base) (sym frame) there.base_is in
    let last : c.in-Some.last ≡ (batch_in (frame_in c.in-Ok-placed_copy.buffer.items)).last = subst (λ f. c.in-Some.last ≡ (batch_in f).last) (sym frame) there.last_is in
    subst (λ f. AddsOnce g.D.Disk.seen c.args.self.now c.store.new.self (batch_in f) c.store.result)
    (frame ∙ ap (λ b. placed b c.args.batch.now) c.end-base.ensures.end)
    (adds g.D.Disk.seen c.args.self.now c.store.new.self _ _ c.end-base.result c.store.result
    (omega (arith, last, c.in-Some.ensures.1)) (omega (arith, c.in-Ok-placed_copy.ensures.1, same_size c.args.batch.now c.in-Ok.view c.in-Ok.ensures.accepted c.end-base.result, ap length frame))
    base c.store.ensures.ok c.store.ensures.quiet c.store.ensures.base c.store.ensures.device c.store.ensures.unchanged c.store.ensures.full c.store.ensures.room c.store.ensures.any_moment)

pub returns-in-Err-clause-runs : goal.returns-in-Err-clause-runs
returns-in-Err-clause-runs g c = runs_none g.D.Disk.seen c.args.self.now.journal.disk

pub returns-in_default-clause-runs : goal.returns-in_default-clause-runs
returns-in_default-clause-runs g c = runs_none g.D.Disk.seen c.args.self.now.journal.disk

pub returns-in_default-placed_copy-clause-runs : goal.returns-in_default-placed_copy-clause-runs
returns-in_default-placed_copy-clause-runs g c = runs_none g.D.Disk.seen c.args.self.now.journal.disk

pub returns-in-Err-clause-behind : goal.returns-in-Err-clause-behind
returns-in-Err-clause-behind g c = λ end e. let never : ⊥ = cc in never

pub returns-in_default-clause-behind : goal.returns-in_default-clause-behind
returns-in_default-clause-behind g c = λ end e. let never : ⊥ = cc in never

pub returns-in_default-placed_copy-clause-behind : goal.returns-in_default-placed_copy-clause-behind
returns-in_default-placed_copy-clause-behind g c = λ end e. let never : ⊥ = cc in never

pub returns-clause-behind : goal.returns-clause-behind
returns-clause-behind g c = c.store.ensures.no_behind

pub returns-clause-runs : goal.returns-clause-runs
returns-clause-runs g c = c.store.ensures.runs

pub returns-clause-base : goal.returns-clause-base
returns-clause-base g c = IfOk-weaker c.store.result _ _ (λ n is. is ∙ c.end-base.ensures.end) c.store.ensures.base

pub returns-clause-below : goal.returns-clause-below
returns-clause-below g c = IfOk-weaker c.store.result _ _ (λ n is. omega (arith, is, c.end-base.ensures.below)) c.store.ensures.base
