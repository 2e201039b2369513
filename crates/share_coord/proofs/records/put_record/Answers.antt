use Rattle.std.proofs.Common.{◌≡◌, ◌∙◌, ap, arith, refl, sym, subst, [], ◌∷◌, List, ℕ, Bool, None, false, length}
use Rattle.std.proofs.lemmas.Result.{on_ok_weaker, on_err_weaker}
use Rattle.gate_journal.specs.Frames.{IsFrame, frame_in}
use Rattle.state_records.specs.Spelling.{record_bytes}
use Rattle.share_coord.specs.Putting.{Puts}
use Rattle.share_coord.proofs.Putting.{nothing_put, plain_mark, put_done, within_alone}
use Rattle.share_coord.proofs.records.put_record.Goals as goal

pub returns-in_default : goal.returns-in_default
returns-in_default g c = λ snapshots. nothing_put g.D.Disk.seen g.met.D.Disk.only_now snapshots c.args.written.now None c.args.journal.now

pub append-appended-requires : goal.append-appended-requires
append-appended-requires g c =
    let is : frame_in c.deref_mut.result.now ≡ record_bytes c.args.written.now = ap frame_in c.deref_mut.ensures.value ∙ c.in-Ok.ensures.frame in
    record { frame = (subst IsFrame (sym is) c.requires.0.0, plain_mark c.args.written.now _ is c.in-Ok.ensures.valid c.requires.0.1) }

pub returns : goal.returns
returns g c = λ snapshots.
    let w = c.append-appended.ensures.writes [] snapshots in
    let is : frame_in c.deref_mut.result.now ≡ record_bytes c.args.written.now = ap frame_in c.deref_mut.ensures.value ∙ c.in-Ok.ensures.frame in
    let whole = ap (λ (l : List ℕ). length l) c.deref_mut.ensures.value in
    let done = put_done g.D.Disk.seen c.args.journal.now c.append-appended.new.self snapshots c.args.written.now None (λ (b : Bool). c.args.written.now)
    (λ (b : Bool). frame_in c.deref_mut.result.now) false refl is c.in-Ok.ensures.valid c.in-Ok.ensures.valid (length c.deref_mut.result.now)
    (omega (arith, whole, c.in-Ok.ensures.len)) c.append-appended.result w.full
    (λ frames sealing pending keeps.
    let run = (c.append-appended.ensures.writes [] ([] ∷ [])).any_moment frames sealing pending keeps in
    record {
      later_a = run.later_a;
      later_b = run.later_b;
      each = λ x y left right.
          let found = run.each x y left right in
          (found.0, found.1, within_alone x y c.args.written.now (frame_in c.deref_mut.result.now) [] frames sealing pending snapshots found.0 is c.in-Ok.ensures.valid found.1 found.2);
    })
    (w.runs_first, w.runs_second) w.turned
    w.quiet
    w.device
    (on_ok_weaker c.append-appended.result (λ a frames sealing pending keeps. let h = a frames sealing pending keeps in (h.base, h.from, h.few, h.keeps)) w.kept)
    (on_err_weaker c.append-appended.result (λ a frames sealing pending keeps. let h = a frames sealing pending keeps in (h.base, h.seals, h.waits, h.from, h.may, h.which, h.keeps)) w.failed) in
    subst (λ r. Puts g.D.Disk.seen snapshots c.args.written.now None c.args.journal.now c.append-appended.new.self false r) (sym c.told.ensures) done
