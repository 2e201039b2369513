-- Acts that are stored by one write, and what is kept of a key then.
use Rattle.std.proofs.Common.{◌≡◌, ◌⊎◌, ⊎_elim, ◌∙◌, inl, inr, refl, sym, ap, subst, arith, ℕ, List, Option, Some, None, true, false}
use Rattle.std.specs.Prelude.{ℤ, pos, Result, Ok, Err, OnOk, OnErr}
use Rattle.coord_checkpoint.specs.Disks.{HasFailed}
use Rattle.coord_checkpoint.specs.Writes.{StaysOn}
use Rattle.share_model.specs.Keys.{KeyParts}
use Rattle.share_model.specs.declared.fault.StoreFault.{StoreFault}
use Rattle.share_model.specs.declared.run.Run.{Run}
use Rattle.share_coord.specs.Calls.{IsWritten, write_refusal}
use Rattle.share_coord.specs.Holding.{IsHeld, Tidies, WritesOnce, WritesTidied}
use Rattle.share_coord.specs.Parts.{KeptState, StoreParts}
use Rattle.share_coord.specs.Putting.{stored_as}
use Rattle.share_coord.specs.Recorded.{IsWriteRecord, StoresOne}
use Rattle.share_coord.specs.Rooms.{IsGranted, IsOwnRecord, IsOwnWritten}
use Rattle.share_coord.specs.Stored.{Entries, based, kept_at, snapshot_frames}
use Rattle.share_coord.specs.declared.fault.CoordFault.{CoordFault}
use Rattle.share_coord.proofs.Behind.{granted_based, tidied_once, tidied_stored}
use Rattle.state_records.specs.declared.record.StateRecord.{StateRecord}
use Rattle.share_part.specs.Acknowledging.{IsRecordOf, start_number}
use Rattle.share_part.specs.Storing.{IsReserved, IsStored, StoresOnce, WritesWithin, answer_of}
use Rattle.share_part.proofs.Within.{within_as}
use Rattle.share_part.proofs.Writing.{kept_one}
use Rattle.edge_io.specs.Views.{DiskView}

-- a write with the key's own epochs, which are 0
module _ (es : Entries) (key : KeyParts) (start : Option ℕ) (number : ℤ) (runs : List Run) (room : ℕ) (is : number ≡ start_number start)
    (r : IsReserved es key runs room) where
  abbrev pub granted_own : write_refusal (kept_at es key) (pos 0) (pos 0) (start_number start) runs ≡ None → IsGranted es key number runs room
  granted_own granted = record {
    kept = r.kept;
    known = r.known;
    valid = (λ i. write_refusal (kept_at es key) (r.epochs.0 i) (r.epochs.1 i) (is i) runs) ∙ granted;
    fits = (let fits = r.fits in let enough = r.room_is in omega (arith, fits, enough));
    few = (let fits = r.fits in omega (arith, fits));
  }

  epochs_of : (kept : KeptState) → kept_at es key ≡ Some kept → (kept.view.state_epoch ≡ pos 0) × (kept.view.leader_epoch ≡ pos 0)
  epochs_of kept known =
      let same : kept ≡ r.kept = kept_one kept r.kept (sym known ∙ r.known) in (
        ap (λ (k : KeptState). k.view.state_epoch) same ∙ r.epochs.0,
        ap (λ (k : KeptState). k.view.leader_epoch) same ∙ r.epochs.1,
      )

  own_written : (new : Entries) → IsOwnWritten es key number runs new → IsStored es key start runs new
  own_written new w =
      let e = epochs_of w.kept w.known in
      subst (λ (n : ℤ). IsWritten es key (pos 0) (pos 0) n runs new) is
      (subst (λ (l : ℤ). IsWritten es key (pos 0) l number runs new) e.1
      (subst (λ (s : ℤ). IsWritten es key s w.kept.view.leader_epoch number runs new) e.0 w.is))

  own_record : (one : StateRecord) → IsOwnRecord es key number runs one → IsRecordOf es key start runs one
  own_record one w =
      let e = epochs_of w.kept w.known in
      subst (λ (n : ℤ). IsWriteRecord es key (pos 0) (pos 0) n runs one) is
      (subst (λ (l : ℤ). IsWriteRecord es key (pos 0) l number runs one) e.1
      (subst (λ (s : ℤ). IsWriteRecord es key s w.kept.view.leader_epoch number runs one) e.0 w.is))

  -- ---- with no checkpoint before it

  module _ {D : Type 0} (seen : D → DiskView) (old new : StoreParts D) where
    on_ok : {P Q : Type 0} (done : Result (Unit {0}) CoordFault) → (P → Q) → OnOk done P → OnOk done Q
    on_ok (Ok u) f p = f p
    on_ok (Err e) f p = tt

    on_err : {P Q : Type 0} (done : Result (Unit {0}) CoordFault) → (P → Q) → OnErr done P → OnErr done Q
    on_err (Ok u) f p = tt
    on_err (Err e) f p = f p

    pub moments_own : (told : Result (Unit {0}) StoreFault) → WritesOnce seen (HasFailed seen) (IsOwnWritten es key number runs) old new (stored_as told)
        → WritesWithin seen (IsStored es key start runs) old new
    moments_own told w = within_as seen (IsOwnWritten es key number runs) (IsStored es key start runs) old new own_written w.any_moment

    once_as : (done : Result (Unit {0}) CoordFault) → WritesOnce seen (HasFailed seen) (IsOwnWritten es key number runs) old new done
        → WritesTidied seen (HasFailed seen) (IsStored es key start runs) false old new done
    once_as done w = record {
      quiet = w.quiet;
      written = on_ok done (own_written new.entries) w.written;
      kept = w.kept;
      same = w.same;
      left = w.left;
      unchanged = w.unchanged;
      failed = on_err done (λ f pending holds. ⊎_elim (λ still. inl still) (λ other. inr (⊎_elim (λ none. inl none) (λ lost. inr (lost.0, own_written lost.0 lost.1, lost.2)) other)) (f pending holds)) w.failed;
      device = λ e. let d = w.device e in (d.0, (d.1.0, own_written d.1.0 d.1.1));
      full = λ end e. let u = w.full end e in (u.0, (u.1.0, u.1.1, own_written u.1.1 u.1.2, u.1.3, u.1.4, u.1.5));
      mid = old;
      tidies = refl;
      any_moment = within_as seen (IsOwnWritten es key number runs) (IsStored es key start runs) old new own_written w.any_moment;
    }

    one_as : (done : Result (Unit {0}) CoordFault) → StoresOne seen (snapshot_frames old.entries) (IsOwnRecord es key number runs) old.journal new.journal done
        → StoresOne seen (snapshot_frames old.entries) (IsRecordOf es key start runs) old.journal new.journal done
    one_as done s = record {
      stored = on_ok done (λ w. (w.0, own_record w.0 w.1, w.2)) s.stored;
      pending = λ e. let w = s.pending e in (w.0, own_record w.0 w.1, w.2);
      full = λ end e. let w = s.full end e in (w.0, (w.1.0, own_record w.1.0 w.1.1, w.1.2));
      room = on_ok done (λ w. (w.0, own_record w.0 w.1, w.2)) s.room;
    }

    module _ (told : Result (Unit {0}) StoreFault) (fault : Option StoreFault) (same : stored_as told ≡ answer_of fault) where
      pub stored_own : WritesOnce seen (HasFailed seen) (IsOwnWritten es key number runs) old new (stored_as told)
          → StoresOne seen (snapshot_frames old.entries) (IsOwnRecord es key number runs) old.journal new.journal (stored_as told)
          → StoresOnce seen (HasFailed seen) (IsStored es key start runs) (IsRecordOf es key start runs) false old new fault
      stored_own once one = record {
        once = once_as (answer_of fault) (subst (WritesOnce seen (HasFailed seen) (IsOwnWritten es key number runs) old new) same once);
        one = one_as (answer_of fault) (subst (StoresOne seen (snapshot_frames old.entries) (IsOwnRecord es key number runs) old.journal new.journal) same one);
      }

-- ---- with one that was tried

module _ {D : Type 0} (seen : D → DiskView) (old mid new : StoreParts D) (key : KeyParts) (start : Option ℕ) (number : ℤ) (runs : List Run)
    (is : number ≡ start_number start) (r : IsReserved old.entries key runs old.room)
    (granted : write_refusal (kept_at old.entries key) (pos 0) (pos 0) (start_number start) runs ≡ None)
    (tidies : Tidies seen old mid) where
  abbrev its : IsGranted old.entries key number runs old.room
  its = granted_own old.entries key start number runs old.room is r granted

  pub granted_behind : IsGranted mid.entries key number runs mid.room
  granted_behind =
      subst (λ (l : Entries). IsGranted l key number runs mid.room) (sym tidies.is)
      (subst (λ (n : ℕ). IsGranted (based tidies.checkpointed old.entries) key number runs n) (sym tidies.room)
      (granted_based old.entries key number runs tidies.checkpointed old.room its))

  module _ (held : IsHeld seen old) (told : Result (Unit {0}) StoreFault) (alone : StaysOn seen mid.journal new.journal told)
      (once : WritesOnce seen (HasFailed seen) (IsOwnWritten mid.entries key number runs) mid new (stored_as told))
      (one : StoresOne seen (snapshot_frames mid.entries) (IsOwnRecord mid.entries key number runs) mid.journal new.journal (stored_as told))
      (fault : Option StoreFault) (same : stored_as told ≡ answer_of fault) where
    abbrev Once : ℤ → ℤ → ℤ → Type 0
    Once s l n = WritesTidied seen (HasFailed seen) (IsWritten old.entries key s l n runs) true old new (answer_of fault)

    abbrev One : ℤ → ℤ → ℤ → Type 0
    One s l n = StoresOne seen (snapshot_frames old.entries) (IsWriteRecord old.entries key s l n runs) old.journal new.journal (answer_of fault)

    abbrev state_epoch : ℤ
    state_epoch = r.kept.view.state_epoch

    abbrev leader_epoch : ℤ
    leader_epoch = r.kept.view.leader_epoch

    pub stored_behind : StoresOnce seen (HasFailed seen) (IsStored old.entries key start runs) (IsRecordOf old.entries key start runs) true old new fault
    stored_behind = record {
      once = subst (λ (n : ℤ). Once (pos 0) (pos 0) n) is
          (subst (λ (l : ℤ). Once (pos 0) l number) r.epochs.1
          (subst (λ (s : ℤ). Once s leader_epoch number) r.epochs.0
          (subst (λ (d : Result (Unit {0}) CoordFault). WritesTidied seen (HasFailed seen) (IsWritten old.entries key state_epoch leader_epoch number runs) true old new d) same
          (tidied_once seen old mid new key number runs its held tidies told alone once))));
      one = subst (λ (n : ℤ). One (pos 0) (pos 0) n) is
          (subst (λ (l : ℤ). One (pos 0) l number) r.epochs.1
          (subst (λ (s : ℤ). One s leader_epoch number) r.epochs.0
          (subst (λ (d : Result (Unit {0}) CoordFault). StoresOne seen (snapshot_frames old.entries) (IsWriteRecord old.entries key state_epoch leader_epoch number runs) old.journal new.journal d) same
          (tidied_stored seen old mid new key number runs its held tidies told alone once one))));
    }
