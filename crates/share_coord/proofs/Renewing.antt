-- The snapshots of all keys stand for the states that are kept, each with its first snapshot and no update.
use Rattle.std.proofs.Common.{◌≡◌, ◌≤◌, refl, sym, ap, ◌∙◌, subst, arith, append_assoc, append-nil, ℕ, pos, List, [], ◌∷◌, ◌++◌, length, nat_lt, Some, None, Bool, true, false, cond}
use Rattle.std.specs.declared.cmp.Ordering.{Ordering}
use Rattle.std.specs.declared.cmp.Ordering.TheVariants.{Less, Equal, Greater}
use Rattle.std.specs.Ordering.{is_eq, match_ordering, ordering_reverse}
use Rattle.std.specs.List.{AllByRecursion}
use Rattle.std.specs.List.Sorted.{IsStrictlySortedBy}
use Rattle.std.specs.Map.{keys_of}
use Rattle.share_model.specs.Keys.{KeyParts, key_cmp}
use Rattle.offset_runs.specs.Parts.{from_on, run_from}
use Rattle.offset_runs.proofs.Cuts.{from_on-canonical, from_on-row_at}
use Rattle.share_model.specs.ForeignRules.{size_of}
use Rattle.share_model.specs.ShareStates.{AreLaid, ShareState, start_after}
use Rattle.share_model.specs.declared.run.Run.{Run}
use Rattle.state_records.specs.Spelling.{IsRecord, record_bytes}
use Rattle.state_records.specs.States.{IsKey, IsStart}
use Rattle.state_records.specs.declared.record.StateRecord.{StateRecord}
use Rattle.state_records.specs.declared.record.StateRecord.TheVariants.{Snapshot, Update, Removal, Head, Seal}
use Rattle.state_records.proofs.Whole.{record_again}
use Rattle.checkpoint_journal.specs.Checkpoints.{AreSnapshots}
use Rattle.checkpoint_journal.specs.Generations.{mark_read}
use Rattle.share_coord.specs.Stored.{Entries, Accepts, AreAccepted, Follows, kept_at, next_snapshot, settled, settled_kept, snapshot_frames, snapshot_record, with_kept, without_key}
use Rattle.share_coord.specs.Raising.{raised, starts_below}
use Rattle.share_coord.specs.Unwritten.{AreKeptOf, IsKeptOf}
use Rattle.share_coord.specs.Views.{IsKeptState}
use Rattle.share_coord.specs.Parts.{KeptState}
use Rattle.share_coord.proofs.Keys.{all_at, all_with, all_without, keys_total}
use Rattle.share_coord.proofs.Raising.{raised_below, raised_not, with_start}
use Rattle.share_coord.proofs.Spans.{complete_low, cut_laid, laid_again, laid_stored}
use Rattle.share_coord.proofs.Taken.{start_fit}
use Rattle.share_coord.proofs.Unwritten.{raised_view, unraised_view}

-- ---- keys in order

-- all keys are below this one
abbrev AllBelow : Entries → KeyParts → Type 0
AllBelow es key = AllByRecursion (λ e. key_cmp e.0 key ≡ Less) es

-- all keys of the first entries are below those of the others
abbrev Apart : Entries → Entries → Type 0
Apart ds [] = Unit {0}
Apart ds (e ∷ es) = AllBelow ds e.0 × Apart ds es

below_push : (ds : Entries) (e : KeyParts × KeptState) (key : KeyParts) → AllBelow ds key → key_cmp e.0 key ≡ Less → AllBelow (ds ++ e ∷ []) key
below_push [] e key h less = (less, tt)
below_push (d ∷ ds) e key h less = (h.0, below_push ds e key h.1 less)

apart_push : (ds : Entries) (e : KeyParts × KeptState) (es : Entries) → Apart ds es → AllByRecursion (λ k. key_cmp e.0 k ≡ Less) (keys_of es) → Apart (ds ++ e ∷ []) es
apart_push ds e [] h less = tt
apart_push ds e (x ∷ xs) h less = (below_push ds e x.0 h.0 less.0, apart_push ds e xs h.1 less.1)

apart_none : (es : Entries) → Apart [] es
apart_none [] = tt
apart_none (e ∷ es) = (tt, apart_none es)

above : (a b : KeyParts) → key_cmp a b ≡ Less → key_cmp b a ≡ Greater
above a b less = keys_total.antisymm b a ∙ ap ordering_reverse less

absent : (es : Entries) (key : KeyParts) → AllBelow es key → kept_at es key ≡ None
absent [] key h = refl
absent (e ∷ es) key h = ap (λ (r : Ordering). cond (is_eq r) (Some e.1) (kept_at es key)) (above e.0 key h.0) ∙ absent es key h.1

at_end : (es : Entries) (key : KeyParts) (v : KeptState) → AllBelow es key → with_kept es key v ≡ es ++ (key, v) ∷ []
at_end [] key v h = refl
at_end (e ∷ es) key v h =
    ap (λ (r : Ordering). match_ordering r ((key, v) ∷ e ∷ es) ((e.0, v) ∷ es) (e ∷ with_kept es key v)) (above e.0 key h.0)
    ∙ ap (λ (l : Entries). e ∷ l) (at_end es key v h.1)

below_settled : (es : Entries) (key : KeyParts) → AllBelow es key → AllBelow (settled es) key
below_settled [] key h = tt
below_settled (e ∷ es) key h = (h.0, below_settled es key h.1)

settled_push : (es : Entries) (e : KeyParts × KeptState) → settled (es ++ e ∷ []) ≡ settled es ++ (e.0, settled_kept e.1) ∷ []
settled_push [] e = refl
settled_push (x ∷ xs) e = ap (λ (l : Entries). (x.0, settled_kept x.1) ∷ l) (settled_push xs e)

-- ---- what is kept can be stored

-- its numbers are in range, and no row lies below its start
pub record IsFit (kept : KeptState) : Type 0 where
  pub state : IsKeptState kept.view
  pub laid : AreLaid kept.view.start [] kept.view.runs kept.view.runs

abbrev pub AreFit : Entries → Type 0
AreFit es = AllByRecursion (λ e. IsKey e.0) es × AllByRecursion (λ e. IsFit e.1) es

keys_order : (r : Ordering) (a b c : Entries) → AllByRecursion (λ e. IsKey e.0) a → AllByRecursion (λ e. IsKey e.0) b → AllByRecursion (λ e. IsKey e.0) c
    → AllByRecursion (λ e. IsKey e.0) (match_ordering r a b c)
keys_order Less a b c x y z = x
keys_order Equal a b c x y z = y
keys_order Greater a b c x y z = z

keys_with : (es : Entries) (key : KeyParts) (v : KeptState) → AllByRecursion (λ e. IsKey e.0) es → IsKey key → AllByRecursion (λ e. IsKey e.0) (with_kept es key v)
keys_with [] key v h is = (is, tt)
keys_with (e ∷ es) key v h is =
    keys_order (key_cmp key e.0) ((key, v) ∷ e ∷ es) ((e.0, v) ∷ es) (e ∷ with_kept es key v) (is, h) (h.0, h.1) (h.0, keys_with es key v h.1 is)

keys_test : (b : Bool) (a c : Entries) → AllByRecursion (λ e. IsKey e.0) a → AllByRecursion (λ e. IsKey e.0) c → AllByRecursion (λ e. IsKey e.0) (cond b a c)
keys_test true a c x y = x
keys_test false a c x y = y

keys_without : (es : Entries) (key : KeyParts) → AllByRecursion (λ e. IsKey e.0) es → AllByRecursion (λ e. IsKey e.0) (without_key es key)
keys_without [] key h = tt
keys_without (e ∷ es) key h = keys_test (is_eq (key_cmp key e.0)) es (e ∷ without_key es key) h.1 (h.0, keys_without es key h.1)

fit_step : (old : Entries) (r : StateRecord) (new : Entries) → IsRecord r → Follows old r new → AreFit old → AreFit new
fit_step old (Snapshot state) new is f h =
    let kept : IsKeptState (record { state_epoch = state.state_epoch; leader_epoch = state.leader_epoch; start = state.start; runs = f.runs }) = record {
      state_epoch = is.state_epoch;
      leader_epoch = is.leader_epoch;
      start = is.start;
      runs = laid_stored state.start [] state.runs f.runs f.laid (tt, tt) is.runs;
      few = f.few;
    } in
    subst AreFit (sym f.is) (
      keys_with old state.key _ h.0 is.key,
      all_with IsFit old state.key _ h.1 (record { state = kept; laid = laid_again state.start [] state.runs f.runs f.laid }),
    )
fit_step old (Update state) new is f h =
    let was = all_at IsFit old state.key f.kept h.1 f.known in
    let start = start_after f.kept.view.start state.start in
    let kept : IsKeptState (record { state_epoch = state.state_epoch; leader_epoch = state.leader_epoch; start = start; runs = f.runs }) = record {
      state_epoch = is.state_epoch;
      leader_epoch = is.leader_epoch;
      start = start_fit f.kept.view.start state.start was.state.start is.start;
      runs = laid_stored start f.kept.view.runs state.runs f.runs f.laid was.state.runs is.runs;
      few = f.few;
    } in
    subst AreFit (sym f.is) (
      keys_with old state.key _ h.0 is.key,
      all_with IsFit old state.key _ h.1 (record { state = kept; laid = laid_again start f.kept.view.runs state.runs f.runs f.laid }),
    )
fit_step old (Removal key) new is f h = subst AreFit (sym f.is) (keys_without old key h.0, all_without IsFit old key h.1)
fit_step old (Head generation) new is f h = absurd f
fit_step old Seal new is f h = absurd f

pub fit_frame : (old : Entries) (frame : List ℕ) (new : Entries) → Accepts old frame new → AreFit old → AreFit new
fit_frame old frame new a h = fit_step old a.written new a.valid a.follows h

pub fit_all : (frames : List (List ℕ)) (old new : Entries) → AreAccepted old frames new → AreFit old → AreFit new
fit_all [] old new is h = subst AreFit (sym is) h
fit_all (f ∷ fs) old new a h = fit_all fs a.0 new a.2 (fit_step old a.1.written a.0 a.1.valid a.1.follows h)

same_fit : (w k : KeptState) → k.view ≡ w.view → IsFit w → IsFit k
same_fit w k is fit = record {
  state = subst IsKeptState (sym is) fit.state;
  laid = subst (λ (v : ShareState). AreLaid v.start [] v.runs v.runs) (sym is) fit.laid;
}

fewer : (n : ℕ) (runs : List Run) → length (from_on runs n) ≤ length runs
fewer n [] = omega arith
fewer n (x ∷ xs) = by (nat_lt x.last n) (fewer n xs) where
  by : (b : Bool) → length (from_on xs n) ≤ length xs → length (cond b (from_on xs n) (run_from x n ∷ xs)) ≤ length (x ∷ xs)
  by true le = omega (arith, le)
  by false le = omega arith

-- rows that were cut
raised_fit : (k w : KeptState) (n : ℕ) → k.view ≡ with_start w.view n (from_on w.view.runs n) → IsStart k.view.start → IsFit w → IsFit k
raised_fit k w n is start fit =
    let canonical = fit.state.runs.0 in
    let laid = cut_laid (pos n) w.view.runs (from_on w.view.runs n) (from_on-canonical w.view.runs n canonical) (λ o. from_on-row_at w.view.runs n o canonical) in
    let few_were = fit.state.few in
    let fewer_are = fewer n w.view.runs in
    let start_is : IsStart (pos n) = subst (λ (v : ShareState). IsStart v.start) is start in
    let state : IsKeptState (with_start w.view n (from_on w.view.runs n)) = record {
      state_epoch = fit.state.state_epoch;
      leader_epoch = fit.state.leader_epoch;
      start = start_is;
      runs = laid_stored (pos n) [] w.view.runs (from_on w.view.runs n) laid (tt, tt) fit.state.runs;
      few = omega (arith, few_were, fewer_are);
    } in
    record {
      state = subst IsKeptState (sym is) state;
      laid = subst (λ (v : ShareState). AreLaid v.start [] v.runs v.runs) (sym is) (laid_again (pos n) [] w.view.runs (from_on w.view.runs n) laid);
    }

-- what is kept can be stored, as what is written can
view_fit : (b : Bool) (w k : KeptState) → k.raised ≡ b → IsKeptOf w k → IsFit w → IsFit k
view_fit true w k since h fit = by (starts_below w.view.start (size_of k.view.start)) refl (raised_view w k h.view since)
  where
    by : (c : Bool) → starts_below w.view.start (size_of k.view.start) ≡ c → k.view ≡ raised (size_of k.view.start) w.view → IsFit k
    by true low is = raised_fit k w (size_of k.view.start) (is ∙ raised_below w.view (size_of k.view.start) low) (h.since since).0 fit
    by false high is = same_fit w k (is ∙ raised_not w.view (size_of k.view.start) high) fit
view_fit false w k never h fit = same_fit w k (unraised_view w k h.view never) fit

pub kept_fit : (ws ks : Entries) → AreKeptOf ws ks → AreFit ws → AreFit ks
kept_fit [] [] h fit = (tt, tt)
kept_fit [] (y ∷ ys) h fit = absurd h
kept_fit (x ∷ xs) [] h fit = absurd h
kept_fit (x ∷ xs) (y ∷ ys) h fit =
    let rest = kept_fit xs ys h.2 (fit.0.1, fit.1.1) in
    ((subst IsKey h.0 fit.0.0, rest.0), (view_fit y.1.raised x.1 y.1 refl h.1 fit.1.0, rest.1))

-- ---- the snapshots

valid_snapshot : (e : KeyParts × KeptState) → IsKey e.0 → IsFit e.1 → IsRecord (snapshot_record e.0 e.1.view)
valid_snapshot e key fit = record {
  key = key;
  snapshot = omega arith;
  state_epoch = fit.state.state_epoch;
  leader_epoch = fit.state.leader_epoch;
  start = fit.state.start;
  complete = complete_low e.1.view.runs fit.state.runs;
  runs = fit.state.runs;
  few = let few = fit.state.few in omega (arith, few);
}

one_settled : (es : Entries) (e : KeyParts × KeptState) → AllBelow es e.0 → IsKey e.0 → IsFit e.1
    → Accepts (settled es) (record_bytes (snapshot_record e.0 e.1.view)) (settled (es ++ e ∷ []))
one_settled es e below key fit =
    let under = below_settled es e.0 below in
    record {
      written = snapshot_record e.0 e.1.view;
      valid = valid_snapshot e key fit;
      bytes = refl;
      follows = record {
        runs = e.1.view.runs;
        next = sym (ap next_snapshot (absent (settled es) e.0 under));
        laid = fit.laid;
        few = fit.state.few;
        told = refl;
        is = settled_push es e ∙ sym (at_end (settled es) e.0 (settled_kept e.1) under);
      };
    }

renews_from : (ds es : Entries) → Apart ds es → IsStrictlySortedBy key_cmp (keys_of es) → AreFit es
    → AreAccepted (settled ds) (snapshot_frames es) (settled (ds ++ es))
unfolding IsStrictlySortedBy
renews_from ds [] apart sorted fit = ap settled (append-nil ds)
renews_from ds (e ∷ es) apart sorted fit = (
  settled (ds ++ e ∷ []),
  one_settled ds e apart.0 fit.0.0 fit.1.0,
  subst (λ (l : Entries). AreAccepted (settled (ds ++ e ∷ [])) (snapshot_frames es) (settled l)) (append_assoc ds (e ∷ []) es)
      (renews_from (ds ++ e ∷ []) es (apart_push ds e es apart.1 sorted.0) sorted.1 (fit.0.1, fit.1.1)),
)

-- the snapshots of all keys stand for them
pub renews : (es : Entries) → IsStrictlySortedBy key_cmp (keys_of es) → AreFit es → AreAccepted [] (snapshot_frames es) (settled es)
renews es sorted fit = renews_from [] es (apart_none es) sorted fit

pub are_snapshots : (es : Entries) → AreFit es → AreSnapshots (snapshot_frames es)
are_snapshots [] fit = tt
are_snapshots (e ∷ es) fit =
    (ap mark_read (record_again (snapshot_record e.0 e.1.view) (valid_snapshot e fit.0.0 fit.1.0)), are_snapshots es (fit.0.1, fit.1.1))
