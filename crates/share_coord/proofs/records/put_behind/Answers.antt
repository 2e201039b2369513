use Rattle.std.proofs.Common.{◌≡◌, ◌∙◌, ap, arith, List, ℕ, Bool, Some, length, subst, sym}
use Rattle.std.specs.Prelude.{if◌then◌else◌}
use Rattle.std.proofs.lemmas.Result.{on_ok_weaker, on_err_weaker}
use Rattle.gate_journal.specs.Frames.{IsFrame, frame_in}
use Rattle.state_records.specs.Spelling.{record_bytes}
use Rattle.share_coord.specs.Stored.{snapshot_frames}
use Rattle.share_coord.specs.Putting.{Puts}
use Rattle.share_coord.proofs.Putting.{nothing_put, pairs_as, plain_mark, put_done, puts_alone, which_is, which_put, which_record, which_valid, within_both}
use Rattle.share_coord.proofs.records.put_behind.Goals as goal

pub returns-in_default : goal.returns-in_default
returns-in_default g c = puts_alone c.args.written.now c.args.fresh.now g.D.Disk.seen (snapshot_frames c.args.snapshots) c.args.journal.now c.put_record.new.journal
    c.put_record.result.checkpointed c.put_record.result.result (c.put_record.ensures (snapshot_frames c.args.snapshots))

pub returns-in_default-buffer_for : goal.returns-in_default-buffer_for
returns-in_default-buffer_for g c =
    nothing_put g.D.Disk.seen g.met.D.Disk.only_now (snapshot_frames c.args.snapshots) c.args.written.now (Some c.args.fresh.now) c.args.journal.now

pub append_behind-checkpointed-requires-clause-frame : goal.append_behind-checkpointed-requires-clause-frame
append_behind-checkpointed-requires-clause-frame g c =
    let is : frame_in c.deref_mut.result.now ≡ record_bytes c.args.written.now = ap frame_in c.deref_mut.ensures.value ∙ c.in-Ok-buffer_for.ensures.frame in
    (subst IsFrame (sym is) c.requires.0.0, plain_mark c.args.written.now _ is c.in-Ok-buffer_for.ensures.valid c.requires.0.1)

pub append_behind-checkpointed-requires-clause-fresh : goal.append_behind-checkpointed-requires-clause-fresh
append_behind-checkpointed-requires-clause-fresh g c =
    let is : frame_in c.deref_mut-2.result.now ≡ record_bytes c.args.fresh.now = ap frame_in c.deref_mut-2.ensures.value ∙ c.in-Ok.ensures.frame in
    (subst IsFrame (sym is) c.requires.1.0, plain_mark c.args.fresh.now _ is c.in-Ok.ensures.valid c.requires.1.1)

pub returns : goal.returns
returns g c =
    let cs = snapshot_frames c.args.snapshots in
    let plain = c.args.written.now in
    let fresh = c.args.fresh.now in
    let f = frame_in c.deref_mut.result.now in
    let h = frame_in c.deref_mut-2.result.now in
    let a = c.append_behind-checkpointed in
    let w = a.ensures.writes in
    let done = a.result.checkpointed in
    let is : f ≡ record_bytes plain = ap frame_in c.deref_mut.ensures.value ∙ c.in-Ok-buffer_for.ensures.frame in
    let behind : h ≡ record_bytes fresh = ap frame_in c.deref_mut-2.ensures.value ∙ c.in-Ok.ensures.frame in
    let valid = c.in-Ok-buffer_for.ensures.valid in
    let valid_fresh = c.in-Ok.ensures.valid in
    let whole = ap (λ (l : List ℕ). length l) c.deref_mut.ensures.value in
    let puts = put_done g.D.Disk.seen c.args.journal.now a.new.self cs plain (Some fresh) (which_record plain fresh)
    (λ (b : Bool). if b then h else f) done (which_put plain fresh done) (which_is plain fresh f h done is behind) (which_valid plain fresh done valid valid_fresh) valid
    (length c.deref_mut.result.now) (omega (arith, whole, c.in-Ok-buffer_for.ensures.len)) a.result.result w.full
    (λ frames sealing pending keeps. pairs_as g.D.Disk.seen _ _ _ _ _ _
    (λ found w. within_both plain fresh f h frames sealing pending cs found is behind valid valid_fresh w) (w.any_moment frames sealing pending keeps))
    (w.runs_first, w.runs_second) w.turned w.quiet w.device
    (on_ok_weaker a.result.result (λ k frames sealing pending keeps. let x = k frames sealing pending keeps in (x.base, x.from, x.few, x.keeps)) w.kept)
    (on_err_weaker a.result.result (λ k frames sealing pending keeps. let x = k frames sealing pending keeps in (x.base, x.seals, x.waits, x.from, x.may, x.which, x.keeps)) w.failed) in
    subst (λ r. Puts g.D.Disk.seen cs plain (Some fresh) c.args.journal.now a.new.self done r) (sym c.told.ensures) puts
