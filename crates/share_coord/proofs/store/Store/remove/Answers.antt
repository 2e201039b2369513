use Rattle.std.proofs.Common.{◌∙◌, ap, true}
use Rattle.state_records.specs.declared.record.StateRecord.TheVariants.{Removal}
use Rattle.share_coord.specs.Calls.{IsForgotten}
use Rattle.share_coord.specs.Planning.{record_of}
use Rattle.share_coord.specs.Stored.{Entries, based, snapshot_frames, without_key}
use Rattle.share_coord.proofs.Once.{put_causes, refused_at, stored_at}
use Rattle.share_coord.proofs.Removing.{removal_is, removal_both, removals_go, removals_left}
use Rattle.share_coord.proofs.Storing.{stores_err, stores_ok}
use Rattle.share_coord.proofs.store.Store.remove.Goals as goal

pub put-put-requires-clause-frames : goal.put-put-requires-clause-frames
put-put-requires-clause-frames g c = removal_both c.args.key.now c.removal_where-fresh.result c.removal_where-fresh.ensures c.key_fits.ensures

pub returns-in-Err-clause-once : goal.returns-in-Err-clause-once
returns-in-Err-clause-once g c = λ there.
    let es = c.args.self.now.table.entries in
    let key = c.args.key.now in
    let fresh = c.removal_where-fresh.result in
    refused_at g.D.Disk.seen (Removal key) (record_of fresh) c.args.self.now.journal c.put-put.new.self.journal es c.args.self.now.room c.tries-tried.ensures.sorted
    (λ b. without_key (based b es) key) (removals_go es key fresh there c.removal_where-fresh.ensures) (IsForgotten es key) (removals_left es key fresh there)
    (removal_both key fresh c.removal_where-fresh.ensures c.key_fits.ensures).0.0 c.requires.held
    c.put-put.result.checkpointed c.put-put.result.result c.put-put.ensures.puts c.in-Err.fault c.put-put.new.self.table.entries c.put-put.new.self.room c.put-put.ensures.room c.put-put.ensures.table c.in-Err.is

pub returns-in-Err-clause-stored : goal.returns-in-Err-clause-stored
returns-in-Err-clause-stored g c = λ there.
    let key = c.args.key.now in
    let fresh = c.removal_where-fresh.result in
    stores_err g.D.Disk.seen (snapshot_frames c.args.self.now.table.entries) (Removal key) (record_of fresh) c.args.self.now.journal c.put-put.new.self.journal
    c.put-put.result.checkpointed c.put-put.result.result c.put-put.ensures.puts c.requires.held.1.frames c.requires.held.1.sealing c.requires.held.1.unwritten c.requires.held.1.keeps _ (removal_is key fresh c.removal_where-fresh.ensures) c.in-Err.fault c.in-Err.is

pub returns-in-Err-clause-causes : goal.returns-in-Err-clause-causes
returns-in-Err-clause-causes g c = put_causes c.put-put.result.result c.in-Err.fault c.in-Err.is c.put-put.ensures.puts.causes

pub returns-clause-once : goal.returns-clause-once
returns-clause-once g c = λ there.
    let es = c.args.self.now.table.entries in
    let key = c.args.key.now in
    let fresh = c.removal_where-fresh.result in
    stored_at g.D.Disk.seen (Removal key) (record_of fresh) c.args.self.now.journal c.put-put.new.self.journal es c.args.self.now.room c.tries-tried.ensures.sorted
    (λ b. without_key (based b es) key) (removals_go es key fresh there c.removal_where-fresh.ensures) (IsForgotten es key) (removals_left es key fresh there)
    (removal_both key fresh c.removal_where-fresh.ensures c.key_fits.ensures).0.0 c.requires.held
    c.put-put.result.checkpointed c.put-put.result.result c.put-put.ensures.puts true c.remove.new.self.entries c.put-put.new.self.room c.put-put.ensures.room
    (c.remove.ensures.entries ∙ ap (λ (l : Entries). without_key l key) c.put-put.ensures.table) c.in_default.is

pub returns-clause-stored : goal.returns-clause-stored
returns-clause-stored g c = λ there.
    let key = c.args.key.now in
    let fresh = c.removal_where-fresh.result in
    stores_ok g.D.Disk.seen (snapshot_frames c.args.self.now.table.entries) (Removal key) (record_of fresh) c.args.self.now.journal c.put-put.new.self.journal
    c.put-put.result.checkpointed c.put-put.result.result c.put-put.ensures.puts c.requires.held.1.frames c.requires.held.1.sealing c.requires.held.1.unwritten c.requires.held.1.keeps _ (removal_is key fresh c.removal_where-fresh.ensures) true c.in_default.is
