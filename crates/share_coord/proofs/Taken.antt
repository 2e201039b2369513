-- The records that opening takes, one after another.
use Rattle.std.proofs.Common.{◌≡◌, ◌<◌, ◌≤◌, ◌↔◌, ◌+◌, refl, sym, ap, ◌∙◌, subst, arith, ℕ, ℤ, pos, negsuc, List, [], ◌∷◌, ◌++◌, length, Option, Some, None, if◌then◌else◌, to_z, of_z, w32, w64}
use Rattle.std.specs.Prelude.{min, Bool, true, false, IfSome}
use Rattle.offset_runs.specs.Complete.{complete_rows}
use Rattle.share_model.specs.Runs.{IsCanonical, row_at}
use Rattle.share_model.specs.ShareStates.{ShareState, AreLaid, start_after, is_below}
use Rattle.share_model.specs.declared.run.Run.{Run}
use Rattle.state_records.specs.States.{StateParts, IsEpoch, IsStart, AreStoredRuns}
use Rattle.state_records.proofs.Signed.{epoch_same, start_same}
use Rattle.share_coord.specs.Views.{IsKeptState}
use Rattle.share_coord.specs.Stored.{Entries, IsSnapshotted, IsUpdated, Tells, kept_at, with_kept, next_snapshot}
use Rattle.share_coord.specs.Parts.{KeptState}
use Rattle.share_coord.proofs.Keys.{clash}
use Rattle.share_coord.proofs.Spans.{cut_laid, laid_once}

made : ℤ → ℤ → ℤ → List Run → ℕ → ℕ → KeptState
made state leader start runs n m = record {
  view = record { state_epoch = state; leader_epoch = leader; start = start; runs = runs };
  snapshot = n;
  updates = m;
  raised = false;
  tells = false;
}

pub kept_state : (state leader start : ℤ) (runs : List Run) → IsEpoch state → IsEpoch leader → IsStart start → AreStoredRuns runs → length runs ≤ 1000000
    → IsKeptState (record { state_epoch = to_z w32 (of_z w32 state); leader_epoch = to_z w32 (of_z w32 leader); start = to_z w64 (of_z w64 start); runs = runs })
kept_state state leader start runs s l t stored few = record {
  state_epoch = subst IsEpoch (sym (epoch_same state s)) s;
  leader_epoch = subst IsEpoch (sym (epoch_same leader l)) l;
  start = subst IsStart (sym (start_same start t)) t;
  runs = stored;
  few = few;
}

pub start_fit : (old given : ℤ) → IsStart old → IsStart given → IsStart (start_after old given)
start_fit old (pos n) o g = g
start_fit old (negsuc n) o g = o

module _ (old : Entries) (state : StateParts) (s : IsEpoch state.state_epoch) (l : IsEpoch state.leader_epoch) (t : IsStart state.start) where
  made_same : (start : ℤ) (runs : List Run) (n m : ℕ) → IsStart start
      → made (to_z w32 (of_z w32 state.state_epoch)) (to_z w32 (of_z w32 state.leader_epoch)) (to_z w64 (of_z w64 start)) runs n m
      ≡ made state.state_epoch state.leader_epoch start runs n m
  made_same start runs n m fit =
      ap (λ (z : ℤ). made z (to_z w32 (of_z w32 state.leader_epoch)) (to_z w64 (of_z w64 start)) runs n m) (epoch_same state.state_epoch s)
      ∙ (ap (λ (z : ℤ). made state.state_epoch z (to_z w64 (of_z w64 start)) runs n m) (epoch_same state.leader_epoch l)
      ∙ ap (λ (z : ℤ). made state.state_epoch state.leader_epoch z runs n m) (start_same start fit))

  -- the rows of a snapshot, cut
  pub cut_as : (cut : List Run) → IsCanonical cut
      → ((o : ℕ) → row_at cut o ≡ (if is_below o (to_z w64 (of_z w64 state.start)) then None else row_at state.runs o)) → AreLaid state.start [] state.runs cut
  cut_as cut canonical rows = subst (λ (z : ℤ). AreLaid z [] state.runs cut) (start_same state.start t)
      (cut_laid (to_z w64 (of_z w64 state.start)) state.runs cut canonical rows)

  pub snapshot_taken : (cut : List Run) (new : Entries) → state.snapshot ≡ next_snapshot (kept_at old state.key) → AreLaid state.start [] state.runs cut
      → length cut ≤ 1000000 → Tells state.complete cut
      → new ≡ with_kept old state.key (record {
        view = record {
          state_epoch = to_z w32 (of_z w32 state.state_epoch);
          leader_epoch = to_z w32 (of_z w32 state.leader_epoch);
          start = to_z w64 (of_z w64 state.start);
          runs = cut;
        };
        snapshot = state.snapshot;
        updates = 0;
        raised = false;
        tells = false;
      })
      → IsSnapshotted old state new
  unfolding made
  snapshot_taken cut new next laid few told is = record {
    runs = cut;
    next = next;
    laid = laid;
    few = few;
    told = told;
    is = is ∙ ap (with_kept old state.key) (made_same state.start cut state.snapshot 0 t);
  }

  -- with the start that an update leaves
  pub laid_as : (kept : ShareState) (start : ℤ) (rows : List Run) → IsStart kept.start
      → start ≡ start_after (to_z w64 (of_z w64 kept.start)) (to_z w64 (of_z w64 state.start))
      → AreLaid (to_z w64 (of_z w64 start)) kept.runs state.runs rows → (start ≡ start_after kept.start state.start) × AreLaid (start_after kept.start state.start) kept.runs state.runs rows
  laid_as kept start rows k e laid =
      let is : start ≡ start_after kept.start state.start =
      e ∙ (ap (λ (z : ℤ). start_after z (to_z w64 (of_z w64 state.start))) (start_same kept.start k) ∙ ap (start_after kept.start) (start_same state.start t)) in
      let fit : IsStart start = subst IsStart (sym is) (start_fit kept.start state.start k t) in
      (is, subst (λ (z : ℤ). AreLaid z kept.runs state.runs rows) (start_same start fit ∙ is) laid)

  pub update_taken : (kept : KeptState) (start : ℤ) (rows : List Run) (n : ℕ) (new : Entries) → kept_at old state.key ≡ Some kept → state.snapshot ≡ kept.snapshot
      → IsStart kept.view.start → start ≡ start_after kept.view.start state.start
      → AreLaid (start_after kept.view.start state.start) kept.view.runs state.runs rows → length rows ≤ 1000000 → Tells state.complete rows → n ≡ min (kept.updates + 1) 500
      → new ≡ with_kept old state.key (record {
        view = record {
          state_epoch = to_z w32 (of_z w32 state.state_epoch);
          leader_epoch = to_z w32 (of_z w32 state.leader_epoch);
          start = to_z w64 (of_z w64 start);
          runs = rows;
        };
        snapshot = state.snapshot;
        updates = n;
        raised = false;
        tells = false;
      })
      → IsUpdated old state new
  unfolding made
  update_taken kept start rows n new known same k is laid few told updates e = record {
    kept = kept;
    runs = rows;
    known = known;
    same = same;
    laid = laid;
    few = few;
    told = told;
    is = e ∙ ap (with_kept old state.key) (made_same start rows state.snapshot n (subst IsStart (sym is) (start_fit kept.view.start state.start k t))
        ∙ (ap (λ (z : ℤ). made state.state_epoch state.leader_epoch z rows state.snapshot n) is
        ∙ (ap (λ (m : ℕ). made state.state_epoch state.leader_epoch (start_after kept.view.start state.start) rows m n) same
        ∙ ap (λ (m : ℕ). made state.state_epoch state.leader_epoch (start_after kept.view.start state.start) rows kept.snapshot m) updates)));
  }

-- more runs than a key may have
pub too_many_snapshot : (old : Entries) (state : StateParts) (cut : List Run) → AreLaid state.start [] state.runs cut → 1000000 < length cut
    → (new : Entries) → IsSnapshotted old state new → ⊥
too_many_snapshot old state cut laid many new is =
    let same = ap (λ (l : List Run). length l) (laid_once state.start [] state.runs cut is.runs laid is.laid) in
    let few = is.few in
    omega (arith, same, many, few)

-- another number than that of the rows
pub untold_snapshot : (old : Entries) (state : StateParts) (cut : List Run) → AreLaid state.start [] state.runs cut → (Tells state.complete cut → ⊥)
    → (new : Entries) → IsSnapshotted old state new → ⊥
untold_snapshot old state cut laid untold new is =
    untold (subst (λ (l : List Run). Tells state.complete l) (laid_once state.start [] state.runs is.runs cut is.laid laid) is.told)

some_kept : Option KeptState → KeptState → KeptState
some_kept None d = d
some_kept (Some k) d = k

pub too_many_update : (old : Entries) (state : StateParts) (kept : KeptState) (rows : List Run) → kept_at old state.key ≡ Some kept
    → AreLaid (start_after kept.view.start state.start) kept.view.runs state.runs rows → 1000000 < length rows → (new : Entries) → IsUpdated old state new → ⊥
unfolding some_kept
too_many_update old state kept rows known laid many new is =
    let one : kept ≡ is.kept = ap (λ (o : Option KeptState). some_kept o kept) (sym known ∙ is.known) in
    let theirs = subst (λ (k : KeptState). AreLaid (start_after k.view.start state.start) k.view.runs state.runs is.runs) (sym one) is.laid in
    let same = ap (λ (l : List Run). length l) (laid_once (start_after kept.view.start state.start) kept.view.runs state.runs rows is.runs laid theirs) in
    let few = is.few in
    omega (arith, same, many, few)

pub untold_update : (old : Entries) (state : StateParts) (kept : KeptState) (rows : List Run) → kept_at old state.key ≡ Some kept
    → AreLaid (start_after kept.view.start state.start) kept.view.runs state.runs rows → (Tells state.complete rows → ⊥) → (new : Entries) → IsUpdated old state new → ⊥
unfolding some_kept
untold_update old state kept rows known laid untold new is =
    let one : kept ≡ is.kept = ap (λ (o : Option KeptState). some_kept o kept) (sym known ∙ is.known) in
    let theirs = subst (λ (k : KeptState). AreLaid (start_after k.view.start state.start) k.view.runs state.runs is.runs) (sym one) is.laid in
    untold (subst (λ (l : List Run). Tells state.complete l) (laid_once (start_after kept.view.start state.start) kept.view.runs state.runs is.runs rows theirs laid) is.told)

-- a test that fails
pub not_told : (b : Bool) (complete : Option ℕ) (rows : List Run) (n : ℕ) → (b ≡ true) ↔ IfSome complete (λ m. m ≡ n) → n ≡ complete_rows rows → b ≡ false
    → Tells complete rows → ⊥
not_told b complete rows n test count fails told =
    let same : IfSome complete (λ m. m ≡ n) = subst (λ (k : ℕ). IfSome complete (λ m. m ≡ k)) (sym count) told in
    let is : b ≡ true = test.1 same in
    clash (sym is ∙ fails)

pub is_told : (b : Bool) (complete : Option ℕ) (rows : List Run) (n : ℕ) → (b ≡ true) ↔ IfSome complete (λ m. m ≡ n) → n ≡ complete_rows rows → b ≡ true → Tells complete rows
is_told b complete rows n test count holds = subst (λ (k : ℕ). IfSome complete (λ m. m ≡ k)) count (test.0 holds)

-- ---- frames in their order

pub push_before : (xs : List (List ℕ)) (x : List ℕ) (ys : List (List ℕ)) → (xs ++ x ∷ []) ++ ys ≡ xs ++ (x ∷ ys)
push_before [] x ys = refl
push_before (z ∷ xs) x ys = ap (λ (l : List (List ℕ)). z ∷ l) (push_before xs x ys)
