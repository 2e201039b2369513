use Rattle.std.proofs.Common.{◌∙◌, refl, sym, ap, subst, length}
use Rattle.share_coord.specs.Planning.{LeavesPlanned, left_by, record_of}
use Rattle.share_coord.specs.Putting.{Puts}
use Rattle.share_coord.specs.Stored.{Entries, snapshot_frames, without_key}
use Rattle.share_coord.specs.Tables.{shown}
use Rattle.share_coord.proofs.Basing.{added_is, left_again, taken_again}
use Rattle.share_coord.proofs.Once.{put_causes, refused_at, stored_at}
use Rattle.share_coord.proofs.Storing.{stores_err, stores_ok}
use Rattle.share_coord.proofs.store.Store.add.Goals as goal

pub put-put-requires-clause-keys : goal.put-put-requires-clause-keys
put-put-requires-clause-keys g c =
    c.requires.keys ∙ ap (λ (l : Entries). length l) (sym (left_again c.args.self.now.table.entries c.args.key.now (shown c.args.planned.change.kept) c.requires.absent _ c.in_default.ensures.entries))

pub returns-in-Err-result-clause-once : goal.returns-in-Err-result-clause-once
returns-in-Err-result-clause-once g c =
    let es = c.args.self.now.table.entries in
    let p = c.args.planned in
    let key = c.args.key.now in
    let b = c.put-put.result.checkpointed in
    let added = c.in_default.ensures.entries in
    let before = left_again es key (shown p.change.kept) c.requires.absent _ added in
    let puts = subst (λ (l : Entries). Puts g.D.Disk.seen (snapshot_frames l) p.change.written (record_of p.fresh) c.args.self.now.journal c.put-put.new.self.journal b c.put-put.result.result)
    before c.put-put.ensures.puts in
    refused_at g.D.Disk.seen p.change.written (record_of p.fresh) c.args.self.now.journal c.put-put.new.self.journal es c.args.self.now.room c.requires.sorted
    (left_by es key (shown p.change.kept) p.fresh) c.requires.follows (LeavesPlanned es key p) (λ d one is. (d, one, is, refl)) c.requires.frames.0.0 c.requires.held
    b c.put-put.result.result puts c.in-Err-result.fault c.remove.new.self.entries c.put-put.new.self.room c.put-put.ensures.room
    (c.remove.ensures.entries ∙ (ap (λ (l : Entries). without_key l key) c.put-put.ensures.table ∙ taken_again b es key (shown p.change.kept) c.requires.absent _ added))
    c.in-Err-result.is

pub returns-in-Err-result-clause-stored : goal.returns-in-Err-result-clause-stored
returns-in-Err-result-clause-stored g c =
    let es = c.args.self.now.table.entries in
    let p = c.args.planned in
    let before = left_again es c.args.key.now (shown p.change.kept) c.requires.absent _ c.in_default.ensures.entries in
    let puts = subst (λ (l : Entries). Puts g.D.Disk.seen (snapshot_frames l) p.change.written (record_of p.fresh) c.args.self.now.journal c.put-put.new.self.journal
    c.put-put.result.checkpointed c.put-put.result.result) before c.put-put.ensures.puts in
    stores_err g.D.Disk.seen (snapshot_frames es) p.change.written (record_of p.fresh) c.args.self.now.journal c.put-put.new.self.journal
    c.put-put.result.checkpointed c.put-put.result.result puts c.requires.held.1.frames c.requires.held.1.sealing c.requires.held.1.unwritten c.requires.held.1.keeps _ (λ b one is. (b, is)) c.in-Err-result.fault c.in-Err-result.is

pub returns-in-Err-result-clause-causes : goal.returns-in-Err-result-clause-causes
returns-in-Err-result-clause-causes g c = put_causes c.put-put.result.result c.in-Err-result.fault c.in-Err-result.is c.put-put.ensures.puts.causes

pub returns-clause-once : goal.returns-clause-once
returns-clause-once g c =
    let es = c.args.self.now.table.entries in
    let p = c.args.planned in
    let key = c.args.key.now in
    let b = c.put-put.result.checkpointed in
    let added = c.in_default.ensures.entries in
    let before = left_again es key (shown p.change.kept) c.requires.absent _ added in
    let puts = subst (λ (l : Entries). Puts g.D.Disk.seen (snapshot_frames l) p.change.written (record_of p.fresh) c.args.self.now.journal c.put-put.new.self.journal b c.put-put.result.result)
    before c.put-put.ensures.puts in
    stored_at g.D.Disk.seen p.change.written (record_of p.fresh) c.args.self.now.journal c.put-put.new.self.journal es c.args.self.now.room c.requires.sorted
    (left_by es key (shown p.change.kept) p.fresh) c.requires.follows (LeavesPlanned es key p) (λ d one is. (d, one, is, refl)) c.requires.frames.0.0 c.requires.held
    b c.put-put.result.result puts tt c.put-put.new.self.table.entries c.put-put.new.self.room c.put-put.ensures.room
    (c.put-put.ensures.table ∙ added_is b es key (shown p.change.kept) p.fresh c.requires.first _ added) c.in_default-result.is

pub returns-clause-stored : goal.returns-clause-stored
returns-clause-stored g c =
    let es = c.args.self.now.table.entries in
    let p = c.args.planned in
    let before = left_again es c.args.key.now (shown p.change.kept) c.requires.absent _ c.in_default.ensures.entries in
    let puts = subst (λ (l : Entries). Puts g.D.Disk.seen (snapshot_frames l) p.change.written (record_of p.fresh) c.args.self.now.journal c.put-put.new.self.journal
    c.put-put.result.checkpointed c.put-put.result.result) before c.put-put.ensures.puts in
    stores_ok g.D.Disk.seen (snapshot_frames es) p.change.written (record_of p.fresh) c.args.self.now.journal c.put-put.new.self.journal
    c.put-put.result.checkpointed c.put-put.result.result puts c.requires.held.1.frames c.requires.held.1.sealing c.requires.held.1.unwritten c.requires.held.1.keeps _ (λ b one is. (b, is)) tt c.in_default-result.is
