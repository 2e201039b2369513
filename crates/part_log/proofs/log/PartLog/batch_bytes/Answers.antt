use Rattle.std.proofs.Common.{◌≤◌, ◌≢◌, ap, subst, arith, length, ℕ, List, Err, OnOk}
use Rattle.std.proofs.lemmas.List.{length-map}
use Rattle.edge_io.specs.Disk.{IsTold}
use Rattle.share_model.specs.Logs.{Batch, IsAt}
use Rattle.share_model.specs.Rooms.{Appends}
use Rattle.share_model.specs.declared.fault.BatchRead.TheVariants.{NoMemory}
use Rattle.log_index.specs.Indexes.{FillsWithin}
use Rattle.part_log.specs.Batches.{batch_in}
use Rattle.part_log.specs.Holding.{entry_of, kept_in}
use Rattle.part_log.specs.Logs.{LogParts}
use Rattle.part_log.proofs.Holding.{holds_read, read_extends, read_ok, read_spared}
use Rattle.part_log.proofs.log.PartLog.batch_bytes.Goals as goal

pub read-requires-clause-number : goal.read-requires-clause-number
read-requires-clause-number g c =
    let frames = kept_in c.self.inside.seen.frames in
    omega (
      arith,
      c.requires,
      ap (λ (v : LogParts g.row.D.Denot). length v.batches) c.self.view_is,
      ap length c.self.invariant.indexed.entries,
      length-map frames entry_of,
      length-map frames (λ (f : ℕ × List ℕ). batch_in f.1),
    )

pub invariant_of-self : goal.invariant_of-self
invariant_of-self g c =
    holds_read g.D.Disk.seen c.self.inside.seen.frames c.self.inside.index c.self.inside.journal c.self.inside.start c.self.inside.end c.self.invariant
    c.read.new.self c.read.new.journal c.read.ensures.entries c.read.ensures.fits c.read.ensures.only

pub returns-clause-ok : goal.returns-clause-ok
returns-clause-ok g c =
    subst (λ (v : LogParts g.row.D.Denot). OnOk c.read.result (IsTold (g.D.Disk.seen v.journal.disk).content → (b : Batch) → IsAt v.batches c.args.number b
    → Appends c.args.out.now c.read.new.out b.bytes)) c.self.view_is
    (read_ok g.D.Disk.seen c.self.inside.seen.frames c.self.inside.index c.self.inside.journal c.self.inside.start c.self.inside.end c.self.invariant
    c.args.number c.read.result c.args.out.now c.read.new.out c.read.ensures.ok)

pub returns-clause-extends : goal.returns-clause-extends
returns-clause-extends g c =
    subst (λ (v : LogParts g.row.D.Denot). OnOk c.read.result ((b : Batch) → IsAt v.batches c.args.number b → FillsWithin (length b.bytes) c.args.out.now c.read.new.out)) c.self.view_is
    (read_extends g.D.Disk.seen c.self.inside.seen.frames c.self.inside.index c.self.inside.journal c.self.inside.start c.self.inside.end c.self.invariant
    c.args.number c.read.result c.args.out.now c.read.new.out c.read.ensures.extends)

pub returns-clause-spared : goal.returns-clause-spared
returns-clause-spared g c =
    subst (λ (v : LogParts g.row.D.Denot). (b : Batch) → IsAt v.batches c.args.number b → length b.bytes ≤ c.args.out.now.spare → c.read.result ≢ Err NoMemory) c.self.view_is
    (read_spared g.D.Disk.seen c.self.inside.seen.frames c.self.inside.index c.self.inside.journal c.self.inside.start c.self.inside.end c.self.invariant
    c.args.number c.read.result c.args.out.now c.read.new.out c.read.ensures.spared)
