use Rattle.std.proofs.Common.{◌≤◌, ℕ, subst, ◌≡◌, ◌∙◌, refl, sym, ap}
use Rattle.share_coord.specs.Planning.{LeavesPlanned, left_by, record_of}
use Rattle.share_coord.specs.Stored.{Entries, based, kept_at, snapshot_frames, with_kept}
use Rattle.share_coord.specs.Parts.{KeptState}
use Rattle.share_coord.specs.Tables.{shown}
use Rattle.share_coord.specs.Views.{ViewParts}
use Rattle.share_coord.proofs.Basing.{left_is}
use Rattle.share_coord.proofs.Keys.{kept_based, known_by, some_none}
use Rattle.share_coord.proofs.Once.{put_causes, refused_at, stored_at}
use Rattle.share_coord.proofs.Storing.{stores_err, stores_ok}
use Rattle.share_coord.proofs.store.Store.replace.Goals as goal

pub returns-in-Err-clause-once : goal.returns-in-Err-clause-once
returns-in-Err-clause-once g c =
    let es = c.args.self.now.table.entries in
    let p = c.args.planned in
    refused_at g.D.Disk.seen p.change.written (record_of p.fresh) c.args.self.now.journal c.put-put.new.self.journal es c.args.self.now.room c.requires.sorted
    (left_by es c.args.key.now (shown p.change.kept) p.fresh) c.requires.follows (LeavesPlanned es c.args.key.now p) (λ b one is. (b, one, is, refl)) c.requires.frames.0.0 c.requires.held
    c.put-put.result.checkpointed c.put-put.result.result c.put-put.ensures.puts c.in-Err.fault c.put-put.new.self.table.entries c.put-put.new.self.room c.put-put.ensures.room c.put-put.ensures.table c.in-Err.is

pub returns-in-Err-clause-stored : goal.returns-in-Err-clause-stored
returns-in-Err-clause-stored g c =
    let p = c.args.planned in
    stores_err g.D.Disk.seen (snapshot_frames c.args.self.now.table.entries) p.change.written (record_of p.fresh) c.args.self.now.journal c.put-put.new.self.journal
    c.put-put.result.checkpointed c.put-put.result.result c.put-put.ensures.puts c.requires.held.1.frames c.requires.held.1.sealing c.requires.held.1.unwritten c.requires.held.1.keeps _ (λ b one is. (b, is)) c.in-Err.fault c.in-Err.is

pub returns-in-Err-clause-causes : goal.returns-in-Err-clause-causes
returns-in-Err-clause-causes g c = put_causes c.put-put.result.result c.in-Err.fault c.in-Err.is c.put-put.ensures.puts.causes

pub returns-clause-once : goal.returns-clause-once
returns-clause-once g c =
    let es = c.args.self.now.table.entries in
    let p = c.args.planned in
    let b = c.put-put.result.checkpointed in
    let left : c.insert.new.self.entries ≡ left_by es c.args.key.now (shown p.change.kept) p.fresh b =
    c.in-Ok.ensures.entries ∙ (ap (λ (l : Entries). with_kept l c.args.key.now (shown c.numbered.result)) c.put-put.ensures.table
    ∙ (ap (λ (k : KeptState). with_kept (based b es) c.args.key.now k) c.numbered.ensures.kept ∙ left_is es c.args.key.now (shown p.change.kept) p.fresh b)) in
    stored_at g.D.Disk.seen p.change.written (record_of p.fresh) c.args.self.now.journal c.put-put.new.self.journal es c.args.self.now.room c.requires.sorted
    (left_by es c.args.key.now (shown p.change.kept) p.fresh) c.requires.follows (LeavesPlanned es c.args.key.now p) (λ d one is. (d, one, is, refl)) c.requires.frames.0.0 c.requires.held
    b c.put-put.result.result c.put-put.ensures.puts tt c.insert.new.self.entries c.put-put.new.self.room c.put-put.ensures.room left c.in_default.is

pub returns-clause-stored : goal.returns-clause-stored
returns-clause-stored g c =
    let p = c.args.planned in
    stores_ok g.D.Disk.seen (snapshot_frames c.args.self.now.table.entries) p.change.written (record_of p.fresh) c.args.self.now.journal c.put-put.new.self.journal
    c.put-put.result.checkpointed c.put-put.result.result c.put-put.ensures.puts c.requires.held.1.frames c.requires.held.1.sealing c.requires.held.1.unwritten c.requires.held.1.keeps _ (λ b one is. (b, is)) tt c.in_default.is

pub unreachable-requires : goal.unreachable-requires
unreachable-requires g c =
    let es = c.args.self.now.table.entries in
    let key = c.args.key.now in
    let known = known_by (kept_at es key) c.requires.known in
    let there = kept_based c.put-put.result.checkpointed es key known.0 known.1 in
    some_none _ (sym there ∙ (sym (ap (λ (l : Entries). kept_at l key) c.put-put.ensures.table) ∙ c.in-Err-insert.ensures.absent))

pub returns-clause-roomy : goal.returns-clause-roomy
returns-clause-roomy g c =
    let room = c.put-put.ensures.roomy c.requires.roomy in
    let has : c.put-put.new.self.table.room ≤ c.args.planned.change.kept.view.room =
    subst (λ (n : ℕ). n ≤ c.args.planned.change.kept.view.room) (sym c.put-put.ensures.table_room) c.requires.room in
    let le = subst (λ (v : ViewParts). c.put-put.new.self.table.room ≤ v.room) (sym c.numbered.ensures.room) has in
    record {
      table = subst (λ (n : ℕ). c.put-put.new.self.room ≤ n) (sym (c.insert.ensures.room le)) room.table;
      written = room.written;
      laid = room.laid;
      buffer = room.buffer;
    }
