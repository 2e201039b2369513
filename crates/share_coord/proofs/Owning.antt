-- A write with its key's own epochs, in memory that was set aside.
use Rattle.std.proofs.Common.{◌≡◌, ◌<◌, ◌≤◌, ◌+◌, ◌*◌, refl, sym, ap, ◌∙◌, subst, arith, ℕ, ℤ, List, length, Bool, true, false, nat_lt, if◌then◌else◌, Some, None, to_z, of_z, w64}
use Rattle.std.proofs.lemmas.Bool.Decides.{nat_tests}
use Rattle.share_model.specs.Keys.{KeyParts}
use Rattle.share_model.specs.ShareStates.{AreLaid, AreWritten, start_after}
use Rattle.share_model.specs.declared.run.Run.{Run}
use Rattle.offset_runs.specs.Complete.{complete_rows}
use Rattle.state_records.specs.Spelling.{record_bytes}
use Rattle.state_records.specs.States.{AreStoredRuns, IsKey, IsStart}
use Rattle.state_records.specs.declared.record.StateRecord.{StateRecord}
use Rattle.state_records.specs.declared.record.StateRecord.TheVariants.{Snapshot, Update}
use Rattle.state_records.proofs.Signed.{start_same}
use Rattle.share_coord.specs.Calls.{counted, write_refusal, written_of}
use Rattle.share_coord.specs.Parts.{KeptState}
use Rattle.share_coord.specs.Planning.{IsPlanned, left_by}
use Rattle.share_coord.specs.Putting.{IsPut}
use Rattle.share_coord.specs.Recorded.{start_told, write_record}
use Rattle.share_coord.specs.Reserved.{lent_record, own_of, own_record, own_with}
use Rattle.share_coord.specs.Rooms.{IsGranted, IsOwnRecord, IsOwnWritten}
use Rattle.share_coord.specs.Stored.{Entries, kept_at, with_kept}
use Rattle.share_coord.specs.Views.{IsKeptState}
use Rattle.share_coord.specs.declared.reserved.After.{After}
use Rattle.share_coord.specs.declared.reserved.Own.{Own}
use Rattle.share_coord.proofs.Keys.{some_is, some_none}
use Rattle.share_coord.proofs.Planning.{planned_snapshot, planned_update}
use Rattle.share_coord.proofs.Signed.{in_range}
use Rattle.share_coord.proofs.Sizes.{lent_size}
use Rattle.share_coord.proofs.Spans.{laid_stored, written_stored}
use Rattle.share_coord.proofs.Taken.{start_fit}
use Rattle.share_coord.proofs.Unwritten.{counted_low, told_after, told_fit}

-- the start that is told, as it reaches the functions below
pub told_same : (kept : KeptState) (start told : ℤ) → told ≡ start_told kept start → IsStart kept.view.start → IsStart start
    → to_z w64 (of_z w64 told) ≡ start_told kept start
told_same kept start told is was given = start_same told (subst IsStart (sym is) (told_fit kept start was given)) ∙ is

pub told_sent : (kept : KeptState) (start told : ℤ) → told ≡ start_told kept start → IsStart kept.view.start → IsStart start → IsStart (to_z w64 (of_z w64 told))
told_sent kept start told is was given = subst IsStart (sym (told_same kept start told is was given)) (told_fit kept start was given)

-- the start that is left, as it reaches them
pub after_sent : (kept : KeptState) (start left : ℤ) → left ≡ start_after kept.view.start start → IsStart kept.view.start → IsStart start
    → to_z w64 (of_z w64 left) ≡ start_after kept.view.start start
after_sent kept start left is was given = start_same left (subst IsStart (sym is) (start_fit kept.view.start start was given)) ∙ is

pub own_sent : (kept : KeptState) (start : ℤ) (after : After) (count : ℕ) (own : Own) → own ≡ own_with kept after count
    → count ≡ (counted kept (to_z w64 (of_z w64 after.start))).updates → after.start ≡ start_after kept.view.start start → IsStart kept.view.start → IsStart start
    → own ≡ own_of kept after
own_sent kept start after count own is counts left was given =
    let sent : to_z w64 (of_z w64 after.start) ≡ after.start = start_same after.start (subst IsStart (sym left) (start_fit kept.view.start start was given)) in
    is ∙ ap (own_with kept after) (counts ∙ ap (λ (z : ℤ). (counted kept z).updates) sent)

-- what is kept of the key then
abbrev pub left_of : Own → List Run → KeptState
left_of own rows = record {
  view = record { state_epoch = own.state_epoch; leader_epoch = own.leader_epoch; start = own.start; runs = rows };
  snapshot = own.snapshot;
  updates = own.updates;
  raised = false;
  tells = false;
}

-- the rows of a write that is granted
pub record IsLaid (es : Entries) (key : KeyParts) (start : ℤ) (runs : List Run) (room : ℕ) (over rows : List Run) (after : After) (own : Own) (told : ℤ) : Type 0 where
  pub granted : IsGranted es key start runs room
  pub kept : KeptState
  pub found : Some kept ≡ kept_at es key
  pub is_kept : IsKeptState kept.view
  pub is_key : IsKey key
  pub starts_in : IsStart start
  pub own_is : own ≡ own_of kept after
  pub starts : after.start ≡ start_after kept.view.start start
  pub told_is : told ≡ start_told kept start
  pub complete_is : after.complete ≡ complete_rows rows
  pub are_written : AreWritten runs over
  pub are_laid : AreLaid (start_after kept.view.start start) kept.view.runs over rows
  pub few_over : length over ≤ 2 * length runs
  pub few : length rows ≤ length kept.view.runs + 2 * length runs

module _ (es : Entries) (key : KeyParts) (start : ℤ) (runs : List Run) (room : ℕ) (over rows : List Run) (after : After) (own : Own)
    (told : ℤ) (f : IsLaid es key start runs room over rows after own told) where
  same_kept : f.granted.kept ≡ f.kept
  same_kept = sym (some_is f.kept f.granted.kept (f.found ∙ f.granted.known))

  valid : write_refusal (kept_at es key) f.kept.view.state_epoch f.kept.view.leader_epoch start runs ≡ None
  valid = subst (λ (k : KeptState). write_refusal (kept_at es key) k.view.state_epoch k.view.leader_epoch start runs ≡ None) same_kept f.granted.valid

  fits : length f.kept.view.runs + 2 * length runs ≤ room
  fits = subst (λ (k : KeptState). length k.view.runs + 2 * length runs ≤ room) same_kept f.granted.fits

  small : length f.kept.view.runs + 2 * length runs ≤ 1000000
  small = subst (λ (k : KeptState). length k.view.runs + 2 * length runs ≤ 1000000) same_kept f.granted.few

  pub few_over : length over ≤ 1000000
  few_over = let a = f.few_over in let b = small in omega (arith, a, b)

  pub few_rows : length rows ≤ 1000000
  few_rows = let a = f.few in let b = small in omega (arith, a, b)

  pub over_stored : AreStoredRuns over
  over_stored = written_stored runs over (in_range (kept_at es key) f.kept.view.state_epoch f.kept.view.leader_epoch start runs valid).runs_are f.are_written

  pub rows_stored : AreStoredRuns rows
  rows_stored = laid_stored (start_after f.kept.view.start start) f.kept.view.runs over rows f.are_laid f.is_kept.runs over_stored

  pub start_stored : IsStart own.start
  start_stored = subst IsStart (sym (ap (λ (o : Own). o.start) f.own_is ∙ f.starts)) (start_fit f.kept.view.start start f.is_kept.start f.starts_in)

  pub view_kept : IsKeptState (record { state_epoch = own.state_epoch; leader_epoch = own.leader_epoch; start = own.start; runs = rows })
  view_kept = subst (λ (o : Own). IsKeptState (record { state_epoch = o.state_epoch; leader_epoch = o.leader_epoch; start = o.start; runs = rows })) (sym f.own_is) (record {
    state_epoch = f.is_kept.state_epoch;
    leader_epoch = f.is_kept.leader_epoch;
    start = subst IsStart (sym f.starts) (start_fit f.kept.view.start start f.is_kept.start f.starts_in);
    runs = rows_stored;
    few = few_rows;
  })

  pub told_stored : IsStart told
  told_stored = subst IsStart (sym f.told_is) (told_fit f.kept start f.is_kept.start f.starts_in)

  -- the frame fits the buffer
  runs_in : (b : Bool) → length (if b then over else rows) ≤ room
  runs_in true = let a = f.few_over in let b = fits in omega (arith, a, b)
  runs_in false = let a = f.few in let b = fits in omega (arith, a, b)

  pub size : length (record_bytes (own_record key own told over rows)) ≤ 315 + 19 * room
  size =
      let most = lent_size own.is_update (record {
        key = key;
        snapshot = own.snapshot;
        state_epoch = own.state_epoch;
        leader_epoch = own.leader_epoch;
        start = if own.is_update then told else own.start;
        complete = Some own.complete;
        runs = if own.is_update then over else rows;
      }) f.is_key in
      let in_room = runs_in own.is_update in
      omega (arith, most, in_room)

  -- ---- which record, and what it leaves

  -- the updates that count, by the start that was left
  abbrev Count : ℤ → ℕ
  Count z = (counted f.kept z).updates

  abbrev Start : ℤ
  Start = start_after f.kept.view.start start

  abbrev One : Bool → StateRecord
  One b = lent_record b (record {
    key = key;
    snapshot = if b then f.kept.snapshot else f.kept.snapshot + 1;
    state_epoch = f.kept.view.state_epoch;
    leader_epoch = f.kept.view.leader_epoch;
    start = if b then told else after.start;
    complete = Some after.complete;
    runs = if b then over else rows;
  })

  abbrev Left : Bool → KeptState
  Left b = record {
    view = record { state_epoch = f.kept.view.state_epoch; leader_epoch = f.kept.view.leader_epoch; start = after.start; runs = rows };
    snapshot = if b then f.kept.snapshot else f.kept.snapshot + 1;
    updates = if b then Count after.start + 1 else 0;
    raised = false;
    tells = false;
  }

  abbrev Plans : StateRecord → KeptState → Type 0
  Plans plain left = IsPlanned key f.kept f.kept.view.state_epoch f.kept.view.leader_epoch start runs plain left None

  plan_by : (b : Bool) → nat_lt (Count after.start) 500 ≡ b → Plans (One b) (Left b)
  plan_by true is =
      let lt : Count after.start < 500 = grind (arith, nat_tests) in
      let low : Count Start < 500 = subst (λ (z : ℤ). Count z < 500) f.starts lt in
      let same : Count after.start ≡ f.kept.updates = (counted_low f.kept after.start lt).same in
      planned_update key f.kept f.kept.view.state_epoch f.kept.view.leader_epoch start runs over rows f.is_key f.are_written f.are_laid few_over few_rows after.complete f.complete_is
      told f.told_is (One true) (Left true) None tt low
      (λ i. One_update (f.complete_is i)) (λ i. Left_at (f.starts i) (same i))
    where
      One_update : ℕ → StateRecord
      One_update n = lent_record true (record { key = key; snapshot = f.kept.snapshot; state_epoch = f.kept.view.state_epoch; leader_epoch = f.kept.view.leader_epoch; start = told; complete = Some n; runs = over })

      Left_at : ℤ → ℕ → KeptState
      Left_at z n = record {
        view = record { state_epoch = f.kept.view.state_epoch; leader_epoch = f.kept.view.leader_epoch; start = z; runs = rows };
        snapshot = f.kept.snapshot;
        updates = n + 1;
        raised = false;
        tells = false;
      }
  plan_by false is =
      let ge : 500 ≤ Count after.start = grind (arith, nat_tests) in
      let high : 500 ≤ Count Start = subst (λ (z : ℤ). 500 ≤ Count z) f.starts ge in
      planned_snapshot key f.kept f.kept.view.state_epoch f.kept.view.leader_epoch start runs over rows f.is_key f.are_written f.are_laid few_over few_rows after.complete f.complete_is
      told f.told_is (One false) (Left false) None tt high
      (λ i. One_snapshot (f.starts i) (f.complete_is i)) (λ i. Left_at (f.starts i))
    where
      One_snapshot : ℤ → ℕ → StateRecord
      One_snapshot z n = lent_record false (record { key = key; snapshot = f.kept.snapshot + 1; state_epoch = f.kept.view.state_epoch; leader_epoch = f.kept.view.leader_epoch; start = z; complete = Some n; runs = rows })

      Left_at : ℤ → KeptState
      Left_at z = record {
        view = record { state_epoch = f.kept.view.state_epoch; leader_epoch = f.kept.view.leader_epoch; start = z; runs = rows };
        snapshot = f.kept.snapshot + 1;
        updates = 0;
        raised = false;
        tells = false;
      }

  pub plan : Plans (own_record key own told over rows) (left_of own rows)
  plan = subst (λ (o : Own). Plans (own_record key o told over rows) (left_of o rows)) (sym f.own_is) (plan_by (nat_lt (Count after.start) 500) refl)

  left_is : left_of own rows ≡ written_of (counted f.kept Start) f.kept.view.state_epoch f.kept.view.leader_epoch start rows
  left_is = ap (λ (o : Own). left_of o rows) f.own_is ∙ ap left_at f.starts
    where
      left_at : ℤ → KeptState
      left_at z = record {
        view = record { state_epoch = f.kept.view.state_epoch; leader_epoch = f.kept.view.leader_epoch; start = z; runs = rows };
        snapshot = if nat_lt (Count z) 500 then f.kept.snapshot else f.kept.snapshot + 1;
        updates = if nat_lt (Count z) 500 then Count z + 1 else 0;
        raised = false;
        tells = false;
      }

  -- as an update that tells this start, or as a snapshot with that one, which tells so many complete rows
  abbrev record_by : Bool → ℤ → ℤ → ℕ → StateRecord
  record_by b t z n = if b
      then Update (record {
        key = key;
        snapshot = f.kept.snapshot;
        state_epoch = f.kept.view.state_epoch;
        leader_epoch = f.kept.view.leader_epoch;
        start = t;
        complete = Some n;
        runs = over;
      })
      else Snapshot (record {
        key = key;
        snapshot = f.kept.snapshot + 1;
        state_epoch = f.kept.view.state_epoch;
        leader_epoch = f.kept.view.leader_epoch;
        start = z;
        complete = Some n;
        runs = rows;
      })

  one_is : (b : Bool) → One b ≡ record_by b told after.start after.complete
  one_is true = refl
  one_is false = refl

  left_start : after.start ≡ start_after f.kept.view.start (start_told f.kept start)
  left_start = f.starts ∙ sym (told_after f.kept start)

  record_is : own_record key own told over rows ≡ write_record key (counted f.kept Start) f.kept.view.state_epoch f.kept.view.leader_epoch (start_told f.kept start) over rows
  record_is = ap (λ (o : Own). own_record key o told over rows) f.own_is ∙ (one_is (nat_lt (Count after.start) 500)
      ∙ λ i. record_by (ap (λ (z : ℤ). nat_lt (Count z) 500) f.starts i) (f.told_is i) (left_start i) (f.complete_is i))

  pub own_written : (c : Bool) (one : StateRecord) → IsPut (own_record key own told over rows) None c one
      → IsOwnWritten es key start runs (left_by es key (left_of own rows) None c)
  own_written false one is = record {
    kept = f.kept;
    known = sym f.found;
    is = record {
      granted = valid;
      checkpointed = false;
      kept = f.kept;
      written = over;
      laid = rows;
      known = sym f.found;
      are_written = f.are_written;
      are_laid = f.are_laid;
      few_written = few_over;
      few = few_rows;
      is = ap (λ (k : KeptState). with_kept es key k) left_is;
    };
    plain = refl;
  }
  own_written true one is = absurd (some_none one (sym is))

  pub own_stored : (c : Bool) (one : StateRecord) → IsPut (own_record key own told over rows) None c one → IsOwnRecord es key start runs one
  own_stored false one is = record {
    kept = f.kept;
    known = sym f.found;
    is = record {
      checkpointed = false;
      kept = f.kept;
      written = over;
      laid = rows;
      known = sym f.found;
      are_written = f.are_written;
      are_laid = f.are_laid;
      is = is ∙ record_is;
    };
    plain = refl;
  }
  own_stored true one is = absurd (some_none one (sym is))
