-- A write behind a checkpoint that was tried by itself.
use Rattle.std.specs.Prelude.{if◌then◌else◌}
use Rattle.std.proofs.Common.{◌≡◌, ◌≢◌, ◌⊎◌, inl, inr, ⊎_elim, refl, sym, ap, ◌∙◌, subst, arith, ◌+◌, ◌*◌, ◌<◌, ◌≤◌, ◌^◌, ℕ, ℤ, List, [], ◌∷◌, ◌++◌, length, Bool, true, false, not, Option, Some, None, Result, Ok, Err, OnOk, IfErr}
use Rattle.std.specs.List.{AllByRecursion}
use Rattle.std.proofs.lemmas.Result.{on_ok_weaker, on_err_weaker}
use Rattle.edge_io.specs.Views.{DiskView}
use Rattle.gate_journal.specs.Frames.{IsFrame}
use Rattle.gate_journal.specs.Journals.{IsQuiet}
use Rattle.gate_journal.specs.declared.writer.Writer.{Writer}
use Rattle.share_model.specs.Keys.{KeyParts}
use Rattle.share_model.specs.ShareStates.{AreLaid, ShareState, start_after}
use Rattle.share_model.specs.declared.fault.StoreFault.{StoreFault}
use Rattle.share_model.specs.declared.fault.StoreFault.TheVariants.{Device, Full}
use Rattle.share_model.specs.declared.run.Run.{Run}
use Rattle.coord_checkpoint.specs.Disks.{HasFailed}
use Rattle.checkpoint_journal.specs.Checkpoints.{IsCheckpoint}
use Rattle.edge_io.specs.Armed.{RunsOn}
use Rattle.coord_checkpoint.specs.Stores.{Keeps, MaySeal, StoreParts as JournalParts, idle_side, live_side}
use Rattle.coord_checkpoint.specs.Writes.{IsQuietBut, IsTimely, MayCheckpoint, StaysOn, Tries, other_side, side}
use Rattle.coord_checkpoint.proofs.Ends.{fit_of}
use Rattle.coord_checkpoint.proofs.Made.{failed_later}
use Rattle.state_records.specs.Spelling.{record_bytes}
use Rattle.state_records.specs.declared.record.StateRecord.{StateRecord}
use Rattle.share_coord.specs.Calls.{IsWritten, counted, write_refusal, written_of}
use Rattle.share_coord.specs.Holding.{GoesTo, IsHeld, IsWithin, LeavesPending, Tidies, WritesOnce, WritesTidied}
use Rattle.share_coord.specs.Parts.{KeptState, StoreParts}
use Rattle.share_coord.specs.Putting.{stored_as}
use Rattle.share_coord.specs.Recorded.{HasRoomFor, IsBased, IsPending, IsStored, IsWriteRecord, StoresOne, start_told, write_record}
use Rattle.share_coord.specs.Rooms.{IsGranted, IsOwnRecord, IsOwnWritten}
use Rattle.share_coord.specs.States.{states_of}
use Rattle.share_coord.specs.Stored.{Entries, based, based_kept, kept_at, renewed, renewed_kept, snapshot_frames, snapshot_record, with_kept}
use Rattle.share_coord.specs.declared.fault.CoordFault.TheVariants.{Store as store_fault}
use Rattle.share_coord.proofs.Held.{states_based}
use Rattle.share_coord.proofs.Keys.{kept_based, some_is}

-- ---- the key, behind a checkpoint or not

view_based : (c : Bool) (kept : KeptState) → (based_kept c kept).view ≡ kept.view
view_based true kept = refl
view_based false kept = refl

refusal_based : (c : Bool) (kept : KeptState) (state leader start : ℤ) (runs : List Run)
    → write_refusal (Some (based_kept c kept)) state leader start runs ≡ write_refusal (Some kept) state leader start runs
refusal_based true kept state leader start runs = refl
refusal_based false kept state leader start runs = refl

-- behind it no start was raised since a record was written, so its updates count as they are
counted_based : (c : Bool) (kept : KeptState) (start : ℤ)
    → counted (based_kept c kept) (start_after (based_kept c kept).view.start start) ≡ based_kept c (counted kept (start_after kept.view.start start))
counted_based true kept start = refl
counted_based false kept start = refl

told_based : (c : Bool) (kept : KeptState) (start : ℤ) → start_told (based_kept c kept) start ≡ start_told kept start
told_based true kept start = refl
told_based false kept start = refl

module _ (es : Entries) (key : KeyParts) (start : ℤ) (runs : List Run) (c : Bool) where
  -- what is granted before the checkpoint is granted behind it
  pub granted_based : (room : ℕ) → IsGranted es key start runs room → IsGranted (based c es) key start runs room
  granted_based room g =
      let at = kept_based c es key g.kept g.known in
      let view = view_based c g.kept in
      record {
        kept = based_kept c g.kept;
        known = at;
        valid = subst (λ (v : ShareState). write_refusal (kept_at (based c es) key) v.state_epoch v.leader_epoch start runs ≡ None) (sym view)
            (ap (λ (o : Option KeptState). write_refusal o g.kept.view.state_epoch g.kept.view.leader_epoch start runs) at
            ∙ (refusal_based c g.kept g.kept.view.state_epoch g.kept.view.leader_epoch start runs
            ∙ (ap (λ (o : Option KeptState). write_refusal o g.kept.view.state_epoch g.kept.view.leader_epoch start runs) (sym g.known) ∙ g.valid)));
        fits = subst (λ (v : ShareState). length v.runs + 2 * length runs ≤ room) (sym view) g.fits;
        few = subst (λ (v : ShareState). length v.runs + 2 * length runs ≤ 1000000) (sym view) g.few;
      }

  module _ (kept : KeptState) (known : kept_at es key ≡ Some kept) where
    same_kept : (k : KeptState) → kept_at (based c es) key ≡ Some k → k ≡ based_kept c kept
    same_kept k at = some_is k (based_kept c kept) (sym at ∙ kept_based c es key kept known)

    same_view : (k : KeptState) → kept_at (based c es) key ≡ Some k → k.view ≡ kept.view
    same_view k at = ap (λ (x : KeptState). x.view) (same_kept k at) ∙ view_based c kept

    abbrev Plainly : Entries → ShareState → Type 0
    Plainly new v = (w : IsWritten (based c es) key v.state_epoch v.leader_epoch start runs new) × (w.checkpointed ≡ false)

    written_from : write_refusal (kept_at es key) kept.view.state_epoch kept.view.leader_epoch start runs ≡ None → (new : Entries)
        → IsOwnWritten (based c es) key start runs new → IsWritten es key kept.view.state_epoch kept.view.leader_epoch start runs new
    written_from granted new h =
        let m = subst (Plainly new) (same_view h.kept h.known) (h.is, h.plain) in
        let w = m.0 in
        record {
          granted = granted;
          checkpointed = c;
          kept = kept;
          written = w.written;
          laid = w.laid;
          known = known;
          are_written = w.are_written;
          are_laid = subst (λ (v : ShareState). AreLaid (start_after v.start start) v.runs w.written w.laid) (same_view w.kept w.known) w.are_laid;
          few_written = w.few_written;
          few = w.few;
          is = w.is
              ∙ (ap (λ (b : Bool). with_kept (based b (based c es)) key
              (written_of (based_kept b (counted w.kept (start_after w.kept.view.start start))) kept.view.state_epoch kept.view.leader_epoch start w.laid)) m.1
              ∙ (ap (λ (k : KeptState). with_kept (based c es) key
              (written_of (counted k (start_after k.view.start start)) kept.view.state_epoch kept.view.leader_epoch start w.laid)) (same_kept w.kept w.known)
              ∙ ap (λ (k : KeptState). with_kept (based c es) key (written_of k kept.view.state_epoch kept.view.leader_epoch start w.laid)) (counted_based c kept start)));
        }

    abbrev Stores : StateRecord → ShareState → Type 0
    Stores one v = (w : IsWriteRecord (based c es) key v.state_epoch v.leader_epoch start runs one) × (w.checkpointed ≡ false)

    record_from : (one : StateRecord) → IsOwnRecord (based c es) key start runs one
        → IsWriteRecord es key kept.view.state_epoch kept.view.leader_epoch start runs one
    record_from one h =
        let m = subst (Stores one) (same_view h.kept h.known) (h.is, h.plain) in
        let w = m.0 in
        record {
          checkpointed = c;
          kept = kept;
          written = w.written;
          laid = w.laid;
          known = known;
          are_written = w.are_written;
          are_laid = subst (λ (v : ShareState). AreLaid (start_after v.start start) v.runs w.written w.laid) (same_view w.kept w.known) w.are_laid;
          is = w.is
              ∙ (ap (λ (b : Bool). write_record key (based_kept b (counted w.kept (start_after w.kept.view.start start)))
              kept.view.state_epoch kept.view.leader_epoch (start_told w.kept start) w.written w.laid) m.1
              ∙ (ap (λ (k : KeptState). write_record key (counted k (start_after k.view.start start))
              kept.view.state_epoch kept.view.leader_epoch (start_told k start) w.written w.laid) (same_kept w.kept w.known)
              ∙ λ i. write_record key (counted_based c kept start i) kept.view.state_epoch kept.view.leader_epoch (told_based c kept start i) w.written w.laid));
        }

-- ---- the disk that was live before the checkpoint

module _ {D T E : Type 0} (seen : D → DiskView) (snapshots : List (List ℕ)) (old mid new : JournalParts D) (r : Result T E) (alone : StaysOn seen mid new r) where
  -- behind a completed checkpoint it isn't touched
  kept_second : old.on_second ≡ true → mid.on_second ≡ not old.on_second → mid.sealing ≡ false
      → (if old.on_second then mid.second else mid.first) ≡ live_side old → new.second ≡ old.second
  kept_second e turned low live = by (turned ∙ ap not e) ∙ subst (λ (t : Bool). (if t then mid.second else mid.first) ≡ (if t then old.second else old.first)) e live
    where
      by : mid.on_second ≡ false → new.second ≡ mid.second
      by at = ap (λ (t : Bool). if t then new.first else new.second) (sym (alone.same ∙ at)) ∙ (alone.other low ∙ ap (λ (t : Bool). if t then mid.first else mid.second) at)

  kept_first : old.on_second ≡ false → mid.on_second ≡ not old.on_second → mid.sealing ≡ false
      → (if old.on_second then mid.second else mid.first) ≡ live_side old → new.first ≡ old.first
  kept_first e turned low live = by (turned ∙ ap not e) ∙ subst (λ (t : Bool). (if t then mid.second else mid.first) ≡ (if t then old.second else old.first)) e live
    where
      by : mid.on_second ≡ true → new.first ≡ mid.first
      by at = ap (λ (t : Bool). if t then new.first else new.second) (sym (alone.same ∙ at)) ∙ (alone.other low ∙ ap (λ (t : Bool). if t then mid.first else mid.second) at)

  abbrev Runs : Type 0
  Runs = RunsOn seen old.first.disk mid.first.disk × RunsOn seen old.second.disk mid.second.disk

  abbrev BothQuiet : Type 0
  BothQuiet = IsQuiet seen old.first.disk new.first.disk × IsQuiet seen old.second.disk new.second.disk

  quiet_then : (a b d : D) → RunsOn seen a b → IsQuiet seen a b → IsQuiet seen b d → IsQuiet seen a d
  quiet_then a b d runs p q told = q (runs.told ∙ told) ∙ p told

  untouched : (a b : Writer D) → b ≡ a → IsQuiet seen a.disk b.disk
  untouched a b is = subst (λ (w : Writer D). IsQuiet seen a.disk w.disk) (sym is) (λ told. refl)

  -- so no call failed at all
  all_quiet : (b : Bool) → old.on_second ≡ b → mid.on_second ≡ not old.on_second → mid.sealing ≡ false
      → (if old.on_second then mid.second else mid.first) ≡ live_side old → Runs → IsQuiet seen (idle_side old).disk (other_side old mid).disk
      → IsQuiet seen (side mid.on_second mid) (side mid.on_second new) → BothQuiet
  all_quiet true e turned low live runs made quiet = (
    quiet_then old.first.disk mid.first.disk new.first.disk runs.0
        (subst (λ (t : Bool). IsQuiet seen (if t then old.first else old.second).disk (if t then mid.first else mid.second).disk) e made)
        (subst (λ (t : Bool). IsQuiet seen (side t mid) (side t new)) (turned ∙ ap not e) quiet),
    untouched old.second new.second (kept_second e turned low live),
  )
  all_quiet false e turned low live runs made quiet = (
    untouched old.first new.first (kept_first e turned low live),
    quiet_then old.second.disk mid.second.disk new.second.disk runs.1
        (subst (λ (t : Bool). IsQuiet seen (if t then old.first else old.second).disk (if t then mid.first else mid.second).disk) e made)
        (subst (λ (t : Bool). IsQuiet seen (side t mid) (side t new)) (turned ∙ ap not e) quiet),
  )

  -- else it is live still
  still_live : (b : Bool) → old.on_second ≡ b → mid.on_second ≡ old.on_second → (if old.on_second then mid.second else mid.first) ≡ live_side old
      → IsQuiet seen (side mid.on_second mid) (side mid.on_second new) → IsQuiet seen (side old.on_second old) (side old.on_second new)
  still_live true e same live quiet = subst (λ (t : Bool). IsQuiet seen (side t old) (side t new)) (sym e) (subst (λ (w : Writer D). IsQuiet seen w.disk new.second.disk)
      (subst (λ (t : Bool). (if t then mid.second else mid.first) ≡ (if t then old.second else old.first)) e live)
      (subst (λ (t : Bool). IsQuiet seen (side t mid) (side t new)) (same ∙ e) quiet))
  still_live false e same live quiet = subst (λ (t : Bool). IsQuiet seen (side t old) (side t new)) (sym e) (subst (λ (w : Writer D). IsQuiet seen w.disk new.first.disk)
      (subst (λ (t : Bool). (if t then mid.second else mid.first) ≡ (if t then old.second else old.first)) e live)
      (subst (λ (t : Bool). IsQuiet seen (side t mid) (side t new)) (same ∙ e) quiet))

  pub quiet_but : (c : Bool) → Tries seen snapshots old mid c → MayCheckpoint old snapshots → IsQuiet seen (side mid.on_second mid) (side mid.on_second new)
      → IsQuietBut seen (MayCheckpoint old snapshots) old new
  quiet_but true tries may quiet =
      inl (all_quiet old.on_second refl (tries.turned.0 refl).0 (tries.turned.0 refl).1 tries.live tries.runs (tries.quiet refl) quiet)
  quiet_but false tries may quiet =
      inr (may, alone.same ∙ tries.turned.1 refl, still_live old.on_second refl (tries.turned.1 refl) tries.live quiet)

-- ---- both calls

renewed_again : (es : Entries) → renewed (renewed es) ≡ renewed es
renewed_again [] = refl
renewed_again (e ∷ es) = ap (λ (l : Entries). (e.0, renewed_kept e.1) ∷ l) (renewed_again es)

renewed_based : (b : Bool) (es : Entries) → renewed (based b es) ≡ renewed es
renewed_based true es = renewed_again es
renewed_based false es = refl

-- one of both made a checkpoint, or none did
based_both : (a b : Bool) (old mid new : Entries) → new ≡ based a mid → mid ≡ based b old → (c : Bool) × (new ≡ based c old)
based_both true b old mid new n m = (true, n ∙ (ap renewed m ∙ renewed_based b old))
based_both false b old mid new n m = (b, n ∙ m)

last_fits : (frames : List (List ℕ)) (frame : List ℕ) → AllByRecursion IsFrame (frames ++ frame ∷ []) → IsFrame frame
last_fits [] frame h = h.0
last_fits (f ∷ fs) frame h = last_fits fs frame h.1

renewed_snapshots : (es : Entries) → snapshot_frames (renewed es) ≡ snapshot_frames es
renewed_snapshots [] = refl
renewed_snapshots (e ∷ es) = ap (λ (fs : List (List ℕ)). record_bytes (snapshot_record e.0 e.1.view) ∷ fs) (renewed_snapshots es)

based_snapshots : (c : Bool) (es : Entries) → snapshot_frames (based c es) ≡ snapshot_frames es
based_snapshots true es = renewed_snapshots es
based_snapshots false es = refl

module _ {D : Type 0} (seen : D → DiskView) (old mid new : StoreParts D) (key : KeyParts) (start : ℤ) (runs : List Run)
    (g : IsGranted old.entries key start runs old.room) (held : IsHeld seen old) (tidies : Tidies seen old mid)
    (told : Result (Unit {0}) StoreFault) (alone : StaysOn seen mid.journal new.journal told)
    (once : WritesOnce seen (HasFailed seen) (IsOwnWritten mid.entries key start runs) mid new (stored_as told)) where
  abbrev Written : Entries → Type 0
  Written es = IsWritten old.entries key g.kept.view.state_epoch g.kept.view.leader_epoch start runs es

  written_as : (es : Entries) → IsOwnWritten mid.entries key start runs es → Written es
  written_as es h = written_from old.entries key start runs tidies.checkpointed g.kept g.known g.valid es
      (subst (λ (l : Entries). IsOwnWritten l key start runs es) tidies.is h)

  abbrev MayGo : Type 0
  MayGo = IsTimely old.journal (snapshot_frames old.entries) × (mid.journal.end + 33554437 ≤ 2 ^ 62)

  tried : (mid ≡ old) ⊎ MayGo
  tried = ⊎_elim
      (λ is. inl (λ i. record { journal = is.0 i; entries = (tidies.is ∙ ap (λ (b : Bool). based b old.entries) is.1) i; room = tidies.room i }))
      (λ may. inr (may.0, may.1)) (tidies.journal.due held.1.frames held.1.sealing held.1.unwritten held.1.keeps)

  -- a write that is refused as full finds what there was
  pub still : (end : ℕ) → told ≡ Err (Full end) → mid ≡ old
  still end is = ⊎_elim (λ same. same) (λ may. absurd (over may)) tried
    where
      over : MayGo → ⊥
      over may =
          let f = once.full end (ap stored_as is) in
          let at = f.0 in
          let small = f.1.4.1 in
          let past = f.1.5 in
          let has = may.1 in
          omega (arith, at, small, past, has)

  quiet : (t : Result (Unit {0}) StoreFault) → told ≡ t
      → OnOk (stored_as t) (IsQuietBut seen (MayCheckpoint old.journal (snapshot_frames old.entries)) old.journal new.journal)
  quiet (Err e) is = tt
  quiet (Ok x) is = elim tried [
    | inl same ↦ subst (λ (s : StoreParts D). IsQuietBut seen (MayCheckpoint s.journal (snapshot_frames s.entries)) s.journal new.journal) same
        (subst (λ (t : Result (Unit {0}) StoreFault). OnOk (stored_as t) (IsQuietBut seen (MayCheckpoint mid.journal (snapshot_frames mid.entries)) mid.journal new.journal)) is once.quiet)
    | inr may ↦ quiet_but seen (snapshot_frames old.entries) old.journal mid.journal new.journal told alone tidies.checkpointed tidies.journal (inl may.0.0)
        (subst (λ (t : Result (Unit {0}) StoreFault). OnOk t (IsQuiet seen (side mid.journal.on_second mid.journal) (side mid.journal.on_second new.journal))) is alone.quiet)
  ]

  unchanged : (t : Result (Unit {0}) StoreFault) → told ≡ t → IfErr (stored_as t) (λ e. e ≢ store_fault Device → new ≡ old)
  unchanged (Ok x) is = tt
  unchanged (Err Device) is = λ other. absurd (other refl)
  unchanged (Err (Full end)) is = λ other.
      subst (λ (t : Result (Unit {0}) StoreFault). IfErr (stored_as t) (λ e. e ≢ store_fault Device → new ≡ mid)) is once.unchanged other ∙ still end is

  told_full : (t : Result (Unit {0}) StoreFault) (end : ℕ) → stored_as t ≡ Err (store_fault (Full end)) → t ≡ Err (Full end)
  told_full (Ok x) end is = absurd cc
  told_full (Err Device) end is = absurd cc
  told_full (Err (Full n)) end is = cc

  full : (end : ℕ) → stored_as told ≡ Err (store_fault (Full end)) → (end ≡ old.journal.end)
      × ((frame : List ℕ) × (lost : Entries) × Written lost × GoesTo old.entries frame lost × IsFrame frame × (2 ^ 62 < end + (length frame + 5)))
  full end is =
      let same = still end (told_full told end is) in
      let f = once.full end is in (
        f.0 ∙ ap (λ (s : StoreParts D). s.journal.end) same,
        (f.1.0, f.1.1, written_as f.1.1 f.1.2, subst (λ (s : StoreParts D). GoesTo s.entries f.1.0 f.1.1) same f.1.3, f.1.4, f.1.5),
      )

  within : (pending : Option Entries) (a b : List ℕ) → IsWithin (IsOwnWritten mid.entries key start runs) mid.entries pending a b
      → IsWithin Written mid.entries pending a b
  within pending a b (inl stands) = inl stands
  within pending a b (inr w) = inr (w.0, written_as w.0 w.1, w.2)

  -- what was pending before a completed checkpoint isn't behind it
  pending_on : (c : Bool) → (c ≡ false → mid.journal.on_second ≡ old.journal.on_second) → (pending : Option Entries)
      → LeavesPending seen (IsOwnWritten mid.entries key start runs) mid new (if c then None else pending) → LeavesPending seen Written old new pending
  pending_on true turned pending (inl h) = inr (inl h.1)
  pending_on false turned pending (inl h) = inl (h.0 ∙ turned refl, h.1)
  pending_on c turned pending (inr (inl none)) = inr (inl none)
  pending_on c turned pending (inr (inr x)) = inr (inr (x.0, written_as x.0 x.1, x.2))

  abbrev waits_still : Option Entries → Option Entries
  waits_still pending = if tidies.checkpointed then None else pending

  pub tidied_once : WritesTidied seen (HasFailed seen) Written true old new (stored_as told)
  tidied_once = record {
    mid = mid;
    tidies = tidies;
    quiet = quiet told refl;
    written = on_ok_weaker (stored_as told) (written_as new.entries) once.written;
    kept = on_ok_weaker (stored_as told) (λ h pending was. h (waits_still pending) (tidies.kept pending was)) once.kept;
    same = on_err_weaker (stored_as told) (λ is. is ∙ (ap states_of tidies.is ∙ states_based tidies.checkpointed old.entries)) once.same;
    left = on_err_weaker (stored_as told) (λ h. based_both h.0 tidies.checkpointed old.entries mid.entries new.entries h.1 tidies.is) once.left;
    unchanged = unchanged told refl;
    failed = on_err_weaker (stored_as told)
        (λ h pending was. pending_on tidies.checkpointed tidies.journal.turned.1 pending (h (waits_still pending) (tidies.kept pending was))) once.failed;
    device = λ is. let x = once.device is in (
      ⊎_elim
          (λ h. inl (failed_later seen old.journal.first.disk mid.journal.first.disk new.journal.first.disk tidies.journal.runs.0 h))
          (λ h. inr (failed_later seen old.journal.second.disk mid.journal.second.disk new.journal.second.disk tidies.journal.runs.1 h)) x.0,
      (x.1.0, written_as x.1.0 x.1.1),
    );
    full = full;
    any_moment = λ pending held.
        let m = once.any_moment pending held in
        record { later_a = m.later_a; later_b = m.later_b; each = λ a b left right. within pending a b (m.each a b left right) };
  }

  -- ---- the record

  abbrev Stored : StateRecord → Type 0
  Stored one = IsWriteRecord old.entries key g.kept.view.state_epoch g.kept.view.leader_epoch start runs one

  record_as : (one : StateRecord) → IsOwnRecord mid.entries key start runs one → Stored one
  record_as one h = record_from old.entries key start runs tidies.checkpointed g.kept g.known one
      (subst (λ (l : Entries). IsOwnRecord l key start runs one) tidies.is h)

  abbrev Moves : (frames : List (List ℕ)) (sealing : Option (List (List ℕ))) (pending : Option (List ℕ)) → Type 0
  Moves frames sealing pending = (base : List (List ℕ)) × (seals : Option (List (List ℕ))) × (waits : Option (List ℕ))
      × IsBased (snapshot_frames old.entries) frames base × MaySeal sealing (snapshot_frames old.entries) seals
      × (((base ≡ frames) × (waits ≡ pending)) ⊎ (waits ≡ None)) × Keeps seen mid.journal base seals waits

  moves : (c : Bool) → Tries seen (snapshot_frames old.entries) old.journal mid.journal c → (frames : List (List ℕ)) (sealing : Option (List (List ℕ))) (pending : Option (List ℕ))
      → Keeps seen old.journal frames sealing pending → Moves frames sealing pending
  moves true tries frames sealing pending was =
      let h = tries.made refl frames sealing pending was in
      (h.0, None, None, inr h.1, (λ landed is. absurd (let clash : ⊥ = cc in clash)), inr refl, h.2)
  moves false tries frames sealing pending was =
      let h = tries.kept refl frames sealing pending was in (frames, h.0, pending, inl refl, h.1, inl (refl, refl), h.2)

  -- a checkpoint changes no state, so one behind it would store the same
  mid_snapshots : snapshot_frames mid.entries ≡ snapshot_frames old.entries
  mid_snapshots = ap snapshot_frames tidies.is ∙ based_snapshots tidies.checkpointed old.entries

  based_on : (frames base last : List (List ℕ)) → IsBased (snapshot_frames old.entries) frames base → IsBased (snapshot_frames mid.entries) base last
      → IsBased (snapshot_frames old.entries) frames last
  based_on frames base last h (inl is) = subst (IsBased (snapshot_frames old.entries) frames) (sym is) h
  based_on frames base last h (inr k) = inr (subst (λ (snapshots : List (List ℕ)). IsCheckpoint snapshots last) mid_snapshots k)

  seals_on : (sealing mids seals : Option (List (List ℕ))) → MaySeal sealing (snapshot_frames old.entries) mids
      → MaySeal mids (snapshot_frames mid.entries) seals → MaySeal sealing (snapshot_frames old.entries) seals
  seals_on sealing mids seals first second landed is =
      ⊎_elim (λ was. first landed was)
      (λ made. inr (subst (λ (snapshots : List (List ℕ)). IsCheckpoint snapshots landed) mid_snapshots made)) (second landed is)

  abbrev StoredFrom : StoreParts D → StateRecord → Type 0
  StoredFrom from one = IsStored seen (snapshot_frames from.entries) from.journal new.journal one

  abbrev PendingFrom : StoreParts D → StateRecord → Type 0
  PendingFrom from one = IsPending seen (snapshot_frames from.entries) from.journal new.journal one

  stored_behind : (one : StateRecord) → StoredFrom mid one → StoredFrom old one
  stored_behind one h frames sealing pending was =
      let m = moves tidies.checkpointed tidies.journal frames sealing pending was in
      let s = h m.0 m.1 m.2 m.6 in
      (s.0, based_on frames m.0 s.0 m.3 s.1, s.2)

  waits_on : (frames base last : List (List ℕ)) (pending mids waits : Option (List ℕ)) (one : List ℕ) → ((base ≡ frames) × (mids ≡ pending)) ⊎ (mids ≡ None)
      → ((last ≡ base) × (waits ≡ mids)) ⊎ ((waits ≡ None) ⊎ (waits ≡ Some one))
      → ((last ≡ frames) × (waits ≡ pending)) ⊎ ((waits ≡ None) ⊎ (waits ≡ Some one))
  waits_on frames base last pending mids waits one m (inl is) = ⊎_elim (λ e. inl (is.0 ∙ e.0, is.1 ∙ e.1)) (λ e. inr (inl (is.1 ∙ e))) m
  waits_on frames base last pending mids waits one m (inr h) = inr h

  pending_behind : (one : StateRecord) → PendingFrom mid one → PendingFrom old one
  pending_behind one h frames sealing pending was =
      let m = moves tidies.checkpointed tidies.journal frames sealing pending was in
      let s = h m.0 m.1 m.2 m.6 in (
        s.0,
        s.1,
        s.2,
        based_on frames m.0 s.0 m.3 s.3,
        seals_on sealing m.1 s.1 m.4 s.4,
        waits_on frames m.0 s.0 pending m.2 s.2 (record_bytes one) m.5 s.5,
        s.6,
      )

  -- what stands behind it is a frame
  one_fits : (one : StateRecord) → StoredFrom old one → IsFrame (record_bytes one)
  one_fits one h =
      let s = h held.1.frames held.1.sealing held.1.unwritten held.1.keeps in
      last_fits s.0 (record_bytes one) (fit_of seen (live_side new.journal) (s.0 ++ record_bytes one ∷ []) s.2.sides.written s.2.sides.stands)

  module _ (stores : StoresOne seen (snapshot_frames mid.entries) (IsOwnRecord mid.entries key start runs) mid.journal new.journal (stored_as told)) where
    pub tidied_stored : StoresOne seen (snapshot_frames old.entries) Stored old.journal new.journal (stored_as told)
    tidied_stored = record {
      stored = on_ok_weaker (stored_as told) (λ h. (h.0, record_as h.0 h.1, stored_behind h.0 h.2)) stores.stored;
      pending = λ is. let h = stores.pending is in (h.0, record_as h.0 h.1, pending_behind h.0 h.2);
      full = λ end is.
          let same = still end (told_full told end is) in
          let h = stores.full end is in
          (h.0 ∙ ap (λ (s : StoreParts D). s.journal.end) same, (h.1.0, record_as h.1.0 h.1.1, h.1.2));
      room = elim tried [
        | inl same ↦ on_ok_weaker (stored_as told) (λ h. (h.0, record_as h.0 h.1, subst (λ (s : StoreParts D). HasRoomFor s.journal.end h.0) same h.2)) stores.room
        | inr may ↦ on_ok_weaker (stored_as told) (λ h. (h.0, record_as h.0 h.1, room_for may.0.2 h.0 (stored_behind h.0 h.2))) stores.stored
      ];
    }
      where
        room_for : old.journal.end + 33554437 ≤ 2 ^ 62 → (one : StateRecord) → StoredFrom old one → HasRoomFor old.journal.end one
        room_for has one h = let small = (one_fits one h).1 in omega (arith, has, small)
