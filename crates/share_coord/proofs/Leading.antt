-- A write goes on from what is written of its key, and leaves that of which the new state is kept.
use Rattle.std.specs.Prelude.{min}
use Rattle.std.proofs.Common.{◌≡◌, ◌≤◌, ◌+◌, refl, sym, ap, ◌∙◌, subst, arith, ℕ, ℤ, pos, negsuc, List, length, Some, Bool, true, false, cond, ◌&&◌, int_lt}
use Rattle.offset_runs.specs.Complete.{complete_rows}
use Rattle.offset_runs.proofs.Cuts.{lt_no, no_lt}
use Rattle.share_model.specs.ForeignRules.{size_of}
use Rattle.share_model.specs.Keys.{KeyParts}
use Rattle.share_model.specs.Runs.{IsCanonical}
use Rattle.share_model.specs.ShareStates.{AreLaid, ShareState, start_after}
use Rattle.share_model.specs.declared.run.Run.{Run}
use Rattle.state_records.specs.States.{StateParts}
use Rattle.state_records.specs.declared.record.StateRecord.TheVariants.{Snapshot, Update}
use Rattle.share_coord.specs.Parts.{KeptState}
use Rattle.share_coord.specs.Planning.{LeadsTo}
use Rattle.share_coord.specs.Raising.{raised, starts_below}
use Rattle.share_coord.specs.Recorded.{start_told}
use Rattle.share_coord.specs.Stored.{Entries, kept_at, next_snapshot, update_of, with_kept}
use Rattle.share_coord.specs.Unwritten.{AreKeptOf, IsKeptOf, IsViewOf}
use Rattle.share_coord.proofs.Raising.{int_lt_neg, int_lt_pos, laid_over_all, raised_below, raised_not, raised_start}
use Rattle.share_coord.proofs.Spans.{laid_again}
use Rattle.share_coord.proofs.Unwritten.{IsLow, alike_known, alike_with, next_same, raised_view, told_after, unraised_of, unraised_self, unraised_view}

-- rows that are laid over what is kept, as the record lays them over what is written; and the start that either leaves
pub record IsLaidOn (w k : KeptState) (start : ℤ) (over rows : List Run) : Type 0 where
  pub laid : AreLaid (start_after w.view.start (start_told k start)) w.view.runs over rows
  pub starts : start_after w.view.start (start_told k start) ≡ start_after k.view.start start

-- where the start was raised since, and isn't lowered
module _ (w k : KeptState) (start : ℤ) (view : IsViewOf w k) (since : k.raised ≡ true) (canonical : IsCanonical w.view.runs)
    (tells : k.tells ≡ true) (stays : int_lt (start_after k.view.start start) k.view.start ≡ false) where
  abbrev Low : ℕ
  Low = size_of k.view.start

  view_is : k.view ≡ raised Low w.view
  view_is = raised_view w k view since

  offset_is : k.view.start ≡ pos Low
  offset_is =
      let m = raised_start w.view Low in
      let is : k.view.start ≡ pos m.0 = ap (λ (v : ShareState). v.start) view_is ∙ m.1 in
      is ∙ ap (λ (n : ℕ). pos n) (sym (ap size_of is))

  abbrev Told : ℤ → Type 0
  Told z = (m : ℕ) × (cond (k.tells && int_lt z (pos 0)) k.view.start z ≡ pos m) × (start_after k.view.start z ≡ pos m) × (Low ≤ m)

  told_by : (z : ℤ) → int_lt (start_after k.view.start z) k.view.start ≡ false → Told z
  told_by (pos m) high = (
    m,
    ap (λ (r : Bool). cond (r && int_lt (pos m) (pos 0)) k.view.start (pos m)) tells ∙ ap (λ (b : Bool). cond b k.view.start (pos m)) (int_lt_pos m 0 ∙ no_lt m 0 (omega arith)),
    refl,
    lt_no m Low (sym (int_lt_pos m Low) ∙ subst (λ (z : ℤ). int_lt (pos m) z ≡ false) offset_is high),
  )
  told_by (negsuc n) high = (
    Low,
    ap (λ (r : Bool). cond (r && int_lt (negsuc n) (pos 0)) k.view.start (negsuc n)) tells
        ∙ (ap (λ (b : Bool). cond b k.view.start (negsuc n)) (int_lt_neg n 0) ∙ offset_is),
    offset_is,
    omega arith,
  )

  told_at : Told start
  told_at = told_by start stays

  over_all : (m : ℕ) (over rows : List Run) → Low ≤ m → AreLaid (pos m) (raised Low w.view).runs over rows → AreLaid (pos m) w.view.runs over rows
  over_all m over rows le h = by (starts_below w.view.start Low) refl where
    by : (b : Bool) → starts_below w.view.start Low ≡ b → AreLaid (pos m) w.view.runs over rows
    by true low = laid_over_all Low m w.view.runs over rows le canonical
        (subst (λ (v : ShareState). AreLaid (pos m) v.runs over rows) (raised_below w.view Low low) h)
    by false high = subst (λ (v : ShareState). AreLaid (pos m) v.runs over rows) (raised_not w.view Low high) h

  raised_on : (over rows : List Run) → AreLaid (start_after k.view.start start) k.view.runs over rows → IsLaidOn w k start over rows
  raised_on over rows laid =
      let t = told_at in
      let kept : AreLaid (pos t.0) k.view.runs over rows = subst (λ (z : ℤ). AreLaid z k.view.runs over rows) t.2 laid in
      let cut : AreLaid (pos t.0) (raised Low w.view).runs over rows = subst (λ (v : ShareState). AreLaid (pos t.0) v.runs over rows) view_is kept in
      let all : AreLaid (pos t.0) w.view.runs over rows = over_all t.0 over rows t.3 cut in
      record {
        laid = subst (λ (z : ℤ). AreLaid (start_after w.view.start z) w.view.runs over rows) (sym t.1) all;
        starts = ap (start_after w.view.start) t.1 ∙ sym t.2;
      }

-- where it wasn't
plain_on : (w k : KeptState) (start : ℤ) (over rows : List Run) → IsViewOf w k → k.raised ≡ false
    → AreLaid (start_after k.view.start start) k.view.runs over rows → IsLaidOn w k start over rows
plain_on w k start over rows view never laid =
    let same = unraised_view w k view never in
    let told : AreLaid (start_after k.view.start (start_told k start)) k.view.runs over rows =
    subst (λ (z : ℤ). AreLaid z k.view.runs over rows) (sym (told_after k start)) laid in
    record {
      laid = subst (λ (v : ShareState). AreLaid (start_after v.start (start_told k start)) v.runs over rows) same told;
      starts = ap (λ (v : ShareState). start_after v.start (start_told k start)) (sym same) ∙ told_after k start;
    }

pub laid_on : (w k : KeptState) (start : ℤ) (over rows : List Run) → IsKeptOf w k → (k.raised ≡ true → int_lt (start_after k.view.start start) k.view.start ≡ false)
    → AreLaid (start_after k.view.start start) k.view.runs over rows → IsLaidOn w k start over rows
laid_on w k start over rows is stays laid = by k.raised refl where
  by : (b : Bool) → k.raised ≡ b → IsLaidOn w k start over rows
  by true since = raised_on w k start is.view since (is.since since).1 (is.since since).2 (stays since) over rows laid
  by false never = plain_on w k start over rows is.view never laid

-- ---- records

abbrev pub state_parts : KeyParts → ℕ → ℤ → ℤ → ℤ → List Run → List Run → StateParts
state_parts key n state leader start rows runs = record {
  key = key;
  snapshot = n;
  state_epoch = state;
  leader_epoch = leader;
  start = start;
  complete = Some (complete_rows rows);
  runs = runs;
}

abbrev pub kept_by : ℤ → ℤ → ℤ → List Run → ℕ → ℕ → KeptState
kept_by state leader start runs n m = record {
  view = record { state_epoch = state; leader_epoch = leader; start = start; runs = runs };
  snapshot = n;
  updates = m;
  raised = false;
  tells = false;
}

module _ (base old : Entries) (key : KeyParts) (known : KeptState) (state leader start : ℤ) (over rows : List Run)
    (at : kept_at old key ≡ Some known) (laid : AreLaid (start_after known.view.start start) known.view.runs over rows) (few : length rows ≤ 1000000) where
  abbrev Left : ℕ → ℕ → KeptState
  Left n m = kept_by state leader (start_after known.view.start start) rows n m

  -- an update
  pub update_leads : AreKeptOf base old → IsLow known (start_after known.view.start start)
      → LeadsTo base (Update (state_parts key known.snapshot state leader (start_told known start) rows over)) (with_kept old key (Left known.snapshot (known.updates + 1)))
  update_leads from low =
      let f = alike_known IsKeptOf base old key known from at in
      let l = laid_on f.0 known start over rows f.2 low.stays laid in
      let new = update_of f.0 (state_parts key known.snapshot state leader (start_told known start) rows over) rows in
      let few_updates = low.low in
      let as_many = f.2.updates in
      let updates : min (f.0.updates + 1) 500 ≡ known.updates + 1 = omega (arith, few_updates, as_many) in (
        with_kept base key new,
        record { kept = f.0; runs = rows; known = f.1; same = sym f.2.snapshot; laid = l.laid; few = few; told = refl; is = refl },
        alike_with IsKeptOf base old key new (Left known.snapshot (known.updates + 1)) from
            (unraised_of new (Left known.snapshot (known.updates + 1)) refl
            (λ i. record { state_epoch = state; leader_epoch = leader; start = l.starts i; runs = rows }) f.2.snapshot updates),
      )

  -- a snapshot
  pub snapshot_leads : AreKeptOf base old
      → LeadsTo base (Snapshot (state_parts key (known.snapshot + 1) state leader (start_after known.view.start start) rows rows)) (with_kept old key (Left (known.snapshot + 1) 0))
  snapshot_leads from = (
    with_kept base key (Left (known.snapshot + 1) 0),
    record {
      runs = rows;
      next = sym (next_same base old key from ∙ ap next_snapshot at);
      laid = laid_again (start_after known.view.start start) known.view.runs over rows laid;
      few = few;
      told = refl;
      is = refl;
    },
    alike_with IsKeptOf base old key (Left (known.snapshot + 1) 0) (Left (known.snapshot + 1) 0) from (unraised_self (Left (known.snapshot + 1) 0) refl),
  )
