-- The acknowledgements of a group, by what came of their write.
use Rattle.std.proofs.Common.{◌≡◌, ◌∙◌, refl, sym, ap, subst, ℕ, ◌^◌, ◌≤◌, List, Bool, Option, Some, None}
use Rattle.std.specs.Prelude.{pos, IfSome}
use Rattle.share_coord.specs.Calls.{write_refusal}
use Rattle.share_coord.specs.Holding.{WritesTidied}
use Rattle.share_coord.specs.Parts.{StoreParts}
use Rattle.share_coord.specs.Recorded.{StoresOne}
use Rattle.share_coord.specs.Stored.{kept_at, snapshot_frames}
use Rattle.share_model.specs.ForeignRules.{share_state_at, size_of}
use Rattle.share_model.specs.Held.{Held}
use Rattle.share_model.specs.Keys.{KeyParts}
use Rattle.share_model.specs.Logs.{Batch}
use Rattle.share_model.specs.Runs.{IsCanonical}
use Rattle.share_model.specs.ShareStates.{ShareState}
use Rattle.share_model.specs.declared.fault.StoreFault.{StoreFault}
use Rattle.share_model.specs.declared.run.Run.{Run}
use Rattle.part_log.specs.Logs.{IsStoredLog}
use Rattle.share_part.specs.Acting.{JudgesGroup}
use Rattle.share_part.specs.Hosting.{PartConfParts, AreHeldWell, AreHosted, HoldsWell, IsHosted, key_of}
use Rattle.share_coord.specs.States.{states_of}
use Rattle.share_part.specs.Foreseeing.{HasChange}
use Rattle.share_part.specs.Settling.{Acts, AreHeldBy, Change, Judges, change_of}
use Rattle.share_part.specs.Acknowledging.{IsRecordOf, start_number}
use Rattle.share_part.specs.Storing.{IsActsStored, IsReserved, IsStored, StoresOnce, answer_of}
use Rattle.share_part.specs.Tables.{table_of}
use Rattle.share_part.specs.declared.settle.Judged.{Judged}
use Rattle.share_part.specs.declared.settle.Judged.TheVariants.{NotHeld, Changes}
use Rattle.share_part.specs.declared.settle.Moved.{Moved}
use Rattle.share_part.proofs.Slotting.{starting}
use Rattle.share_part.proofs.Writing.{start_bound, granted, reserved}
use Rattle.edge_io.specs.Views.{DiskView}

-- acknowledgements of what the member holds
pub change_there : (limit : ℕ) (member : List ℕ) (acts : Acts) (log : List Batch) (held : Held) (o : Option ShareState) (rows : List Run) (j : Judged) (moved : Moved)
    → j ≡ Changes moved → JudgesGroup limit member acts log held o rows j → HasChange limit acts log held o (change_of moved rows)
change_there limit member acts log held None rows j moved is h = absurd (let never : NotHeld h.0 ≡ Changes moved = sym h.1 ∙ is in let clash : ⊥ = cc in clash)
change_there limit member acts log held (Some state) rows j moved is h =
    let both = subst (Judges limit member acts log (table_of state held) rows) is h in (state, refl, both.1)

pub theirs_there : (limit : ℕ) (member : List ℕ) (acts : Acts) (log : List Batch) (held : Held) (o : Option ShareState) (rows : List Run) (j : Judged) (moved : Moved)
    → j ≡ Changes moved → JudgesGroup limit member acts log held o rows j → AreHeldBy member acts held
theirs_there limit member acts log held None rows j moved is h = absurd (let never : NotHeld h.0 ≡ Changes moved = sym h.1 ∙ is in let clash : ⊥ = cc in clash)
theirs_there limit member acts log held (Some state) rows j moved is h = (subst (Judges limit member acts log (table_of state held) rows) is h).0

module _ {D : Type 0} {from : ℕ} (conf : PartConfParts) (log : List Batch) (group : List ℕ) (acts : Acts) (held : Held) (old : StoreParts D)
    (sound : IsStoredLog log) (few : conf.limit ≤ 10) (hosted : AreHosted conf (starting log from) (states_of old.entries))
    (well : HoldsWell log (share_state_at (states_of old.entries) (key_of conf group)) held) (change : Change)
    (found : HasChange conf.limit acts log held (share_state_at (states_of old.entries) (key_of conf group)) change) where
  was : IsHosted conf (starting log from) (key_of conf group) found.0
  was = hosted (key_of conf group) found.0 found.1

  holds : AreHeldWell log (size_of found.0.start) held
  holds = subst (λ (o : Option ShareState). HoldsWell log o held) found.1 well

  pub start_within : IfSome change.start (λ n. n ≤ 2 ^ 62)
  start_within = start_bound conf log old.entries group found.0 held acts change sound few was holds found.1 found.2

  module _ (key : KeyParts) (runs : List Run) (key_is : key ≡ key_of conf group) (runs_are : runs ≡ change.runs) where
    pub granted_there : write_refusal (kept_at old.entries key) (pos 0) (pos 0) (start_number change.start) runs ≡ None
    granted_there =
        (λ i. write_refusal (kept_at old.entries (key_is i)) (pos 0) (pos 0) (start_number change.start) (runs_are i))
        ∙ granted conf log old.entries group found.0 held acts change sound few was holds found.1 found.2

    pub reserved_there : IsCanonical found.0.runs → (room : ℕ) → 6000 ≤ room → IsReserved old.entries key runs room
    reserved_there canonical room enough = subst (λ (r : List Run). IsReserved old.entries key r room) (sym runs_are)
        (subst (λ (k : KeyParts). IsReserved old.entries k change.runs room) (sym key_is)
        (reserved conf log old.entries group found.0 held acts change sound few was holds found.1 found.2 canonical room enough))

    module _ (seen : D → DiskView) (Failed : D → D → Type 0) (tries : Bool) (new : StoreParts D) where
      abbrev Once : Option StoreFault → Type 0
      Once fault = StoresOnce seen Failed (IsStored old.entries key change.start runs) (IsRecordOf old.entries key change.start runs) tries old new fault

      pub stored_there : (fault : Option StoreFault) → Once fault → IsActsStored seen Failed conf log group acts held tries old new fault
      stored_there fault once = record {
        state = found.0;
        change = change;
        known = found.1;
        is = found.2;
        once = subst (λ (r : List Run). WritesTidied seen Failed (IsStored old.entries (key_of conf group) change.start r) tries old new (answer_of fault)) runs_are
            (subst (λ (k : KeyParts). WritesTidied seen Failed (IsStored old.entries k change.start runs) tries old new (answer_of fault)) key_is once.once);
        one = subst (λ (r : List Run). StoresOne seen (snapshot_frames old.entries) (IsRecordOf old.entries (key_of conf group) change.start r) old.journal new.journal (answer_of fault)) runs_are
            (subst (λ (k : KeyParts). StoresOne seen (snapshot_frames old.entries) (IsRecordOf old.entries k change.start runs) old.journal new.journal (answer_of fault)) key_is once.one);
      }

      pub all_stored : (fault : Option StoreFault) → fault ≡ None → Once fault → IsActsStored seen Failed conf log group acts held tries old new None
      all_stored fault none once = stored_there None (subst Once none once)

      pub none_stored : (fault : Option StoreFault) (its : StoreFault) → fault ≡ Some its → Once fault
          → IsActsStored seen Failed conf log group acts held tries old new (Some its)
      none_stored fault its some once = stored_there (Some its) (subst Once some once)
