use Rattle.std.proofs.Common.{◌∙◌, ◌<◌, sym, ap, subst, arith, length, get_or, List, ℕ, Err}
use Rattle.edge_io.specs.Disk.{IsTold}
use Rattle.log_index.specs.Indexes.{FillsWithin}
use Rattle.share_model.specs.Logs.{Batch, IsAt}
use Rattle.share_model.specs.Rooms.{Appends}
use Rattle.share_model.specs.declared.fault.BatchRead.{BatchRead}
use Rattle.share_part.proofs.Appending.{appended, there, next_fits, next_within}
use Rattle.share_part.proofs.Looked.{device_only, reads_last, reads_next}
use Rattle.share_part.proofs.fetch.append_batches.Goals as goal

pub read_fault-requires : goal.read_fault-requires
read_fault-requires g c =
    let log = c.args.log.now.batches in
    let h = c.loop-number.invariant.1 in
    let lt : c.loop-number.number-index < length c.args.numbers.now = omega (arith, c.loop-number-test.true) in
    let n = get_or c.args.numbers.now c.loop-number.number-index 0 in
    let t = there log n (next_within _ log c.args.numbers.now c.loop-number.number-index c.args.out.now c.loop-number.out h lt) in
    let at = subst (λ (l : List Batch). IsAt l n t.0) (sym c.loop-number.invariant.0.reads.batches) t.1 in
    let fits = next_fits _ log c.args.numbers.now c.loop-number.number-index c.args.out.now c.loop-number.out h lt in
    device_only c.in-Err.fault (λ e. c.batch_bytes.ensures.spared t.0 at (omega (arith, ap length t.2, fits)) (c.in-Err.is ∙ ap (λ (f : BatchRead). Err f) e))

pub returns-in-Err-clause-log : goal.returns-in-Err-clause-log
returns-in-Err-clause-log g c =
    let log = c.args.log.now.batches in
    let h = c.loop-number.invariant.1 in
    let lt : c.loop-number.number-index < length c.args.numbers.now = omega (arith, c.loop-number-test.true) in
    let n = get_or c.args.numbers.now c.loop-number.number-index 0 in
    let t = there log n (next_within _ log c.args.numbers.now c.loop-number.number-index c.args.out.now c.loop-number.out h lt) in
    let at = subst (λ (l : List Batch). IsAt l n t.0) (sym c.loop-number.invariant.0.reads.batches) t.1 in
    let fits = next_fits _ log c.args.numbers.now c.loop-number.number-index c.args.out.now c.loop-number.out h lt in
    reads_last g.D.Disk.seen c.args.log.now c.loop-number.log c.batch_bytes.new.self c.batch_bytes.result c.in-Err.fault c.in-Err.is
    (device_only c.in-Err.fault (λ e. c.batch_bytes.ensures.spared t.0 at (omega (arith, ap length t.2, fits)) (c.in-Err.is ∙ ap (λ (f : BatchRead). Err f) e)))
    c.loop-number.invariant.0 c.batch_bytes.ensures.log c.batch_bytes.ensures.disk

pub returns-in-Err-clause-some : goal.returns-in-Err-clause-some
returns-in-Err-clause-some g c =
    let lt : c.loop-number.number-index < length c.args.numbers.now = omega (arith, c.loop-number-test.true) in
    λ failed none. omega (arith, lt, ap length none)

pub loop-number-preserved : goal.loop-number-preserved
loop-number-preserved g c =
    let log = c.args.log.now.batches in
    let h = c.loop-number.invariant.1 in
    let lt : c.loop-number.number-index < length c.args.numbers.now = omega (arith, c.loop-number-test.true) in
    let n = get_or c.args.numbers.now c.loop-number.number-index 0 in
    let t = there log n (next_within _ log c.args.numbers.now c.loop-number.number-index c.args.out.now c.loop-number.out h lt) in
    let at = subst (λ (l : List Batch). IsAt l n t.0) (sym c.loop-number.invariant.0.reads.batches) t.1 in
    let fits = next_fits _ log c.args.numbers.now c.loop-number.number-index c.args.out.now c.loop-number.out h lt in
    let told = λ (k : IsTold (g.D.Disk.seen c.args.log.now.journal.disk).content).
    subst (Appends c.loop-number.out c.batch_bytes.new.out) t.2 (c.in_default.ensures.ok (c.loop-number.invariant.0.calls.runs.told ∙ k) t.0 at) in
    let fills = subst (λ (l : List ℕ). FillsWithin (length l) c.loop-number.out c.batch_bytes.new.out) t.2 (c.in_default.ensures.extends t.0 at) in (
      reads_next g.D.Disk.seen c.args.log.now c.loop-number.log c.batch_bytes.new.self c.batch_bytes.result c.in_default.not-Err
          c.loop-number.invariant.0 c.batch_bytes.ensures.log c.batch_bytes.ensures.disk,
      appended _ log c.args.numbers.now c.loop-number.number-index c.args.out.now c.loop-number.out h lt c.batch_bytes.new.out told fills,
    )
