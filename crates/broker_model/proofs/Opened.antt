-- The states that disks keep are those of histories.
use Rattle.std.proofs.Common.{◌≡◌, ◌≤◌, ◌&&◌, ℕ, ℤ, pos, negsuc, int_le, nat_le, Bool, true, false, cond, List, [], ◌∷◌, map, Option, Some, None, if◌then◌else◌, refl, sym, ap, ◌∙◌, subst, arith}
use Rattle.std.proofs.lemmas.Bool.Decides.{nat_tests}
use Rattle.std.specs.List.{AllByRecursion}
use Rattle.std.specs.BTreeMap.{is_at}
use Rattle.std.specs.Option.{option_or}
use Rattle.std.specs.declared.cmp.Ordering.TheVariants.{Less}
use Rattle.share_model.specs.Keys.{KeyParts, key_cmp}
use Rattle.share_model.specs.Rows.{state_number, state_of}
use Rattle.share_model.specs.Runs.{IsCanonical, row_at, row_of}
use Rattle.share_model.specs.ShareStates.{ShareState, AreLaid, start_after, is_below, last_row}
use Rattle.share_model.specs.ForeignRules.{ShareStates, share_state_at, run_of, run_with, runs_of, joined_runs}
use Rattle.share_model.specs.declared.row.Row.{Row}
use Rattle.share_model.specs.declared.row.RowState.{RowState}
use Rattle.share_model.specs.declared.row.RowState.TheVariants.{Available, Acknowledged, Archived}
use Rattle.share_model.specs.declared.run.Run.{Run}
use Rattle.share_model.proofs.Lookups.{row_at-none}
use Rattle.state_records.specs.declared.record.StateRecord.{StateRecord}
use Rattle.state_records.specs.declared.record.StateRecord.TheVariants.{Snapshot, Update, Removal, Head, Seal}
use Rattle.share_coord.specs.Stored.{Entries, AreAccepted, Follows as FollowsRecord, snapshot_of, update_of}
use Rattle.share_coord.specs.Parts.{KeptState}
use Rattle.share_coord.proofs.Keys.{all_with, all_without}
use Rattle.share_coord.specs.States.{states_of}
use Rattle.broker_model.specs.Machine.{StandForStates}
use Rattle.broker_model.specs.History.{history_after, history_read, batch_of, row_given, StatesTellHistories}
use Rattle.broker_model.proofs.Maps.{Rises, rises_set, rises_removed}
use Rattle.broker_model.proofs.Histories.{Histories, Known, AreKnown, keys_total, keys_exact, told_by, all_known}

-- ---- the batches of runs give their rows

state_back : (state : RowState) → state_of (state_number state) ≡ Some state
state_back Available = refl
state_back Acknowledged = refl
state_back Archived = refl

fair : (first last state count : ℕ) → first ≤ last
    → (int_le (pos 0) (pos first) && (int_le (pos first) (pos last) && (int_le (pos 0) (pos state) && int_le (pos 0) (pos count)))) ≡ true
fair first last state count le = grind (arith, nat_tests)

run_back : (run : Run) → run.first ≤ run.last → run_of (batch_of run) ≡ Some run
run_back run le =
    ap (λ (b : Bool). if b then run_with (batch_of run) (state_of (state_number run.state)) else None)
    (fair run.first run.last (state_number run.state) run.count le)
    ∙ ap (run_with (batch_of run)) (state_back run.state)

runs_back : (runs : List Run) → IsCanonical runs → runs_of (map batch_of runs) ≡ Some runs
runs_back [] c = refl
runs_back (run ∷ runs) c = λ i. joined_runs (run_back run c.0 i) (runs_back runs c.2 i)

or_none : (row : Option Row) → option_or row None ≡ row
or_none None = refl
or_none (Some row) = refl

upto : (run : Run) (o : ℕ) → (nat_le run.first o && nat_le o run.last) ≡ true → o ≤ run.last
upto run o is = grind (arith, nat_tests)

-- runs that are disjoint have one row at most at an offset
last_row_at : (runs : List Run) (o : ℕ) → IsCanonical runs → last_row runs o ≡ row_at runs o
last_row_at [] o c = refl
last_row_at (run ∷ runs) o c = go (nat_le run.first o && nat_le o run.last) refl (last_row_at runs o c.2) where
  go : (b : Bool) → (nat_le run.first o && nat_le o run.last) ≡ b → last_row runs o ≡ row_at runs o
      → option_or (last_row runs o) (cond b (Some (row_of run)) None) ≡ cond b (Some (row_of run)) (row_at runs o)
  go true is ih = ap (λ (r : Option Row). option_or r (Some (row_of run))) (ih ∙ row_at-none run runs o c.1 c.2 (upto run o is))
  go false is ih = or_none (last_row runs o) ∙ ih

-- ---- a state that a disk may keep

pub record IsReadable (state : ShareState) : Type 0 where
  pub canonical : IsCanonical state.runs
  pub below : (offset : ℕ) → is_below offset state.start ≡ true → row_at state.runs offset ≡ None

start_same : (start : ℤ) → start_after start start ≡ start
start_same (pos n) = refl
start_same (negsuc n) = refl

abbrev row_by : ℕ → ℤ → Option (List Run) → Option Row
row_by offset start runs = if is_below offset start then None else option_or (row_given runs offset) None

module _ (state : ShareState) (readable : IsReadable state) where
  rows_read : (offset : ℕ) → row_at state.runs offset
      ≡ (if is_below offset (start_after state.start state.start) then None else option_or (row_given (runs_of (map batch_of state.runs)) offset) None)
  rows_read offset = go (is_below offset state.start) refl ∙ sym (λ i. row_by offset (start_same state.start i) (runs_back state.runs readable.canonical i)) where
    go : (b : Bool) → is_below offset state.start ≡ b → row_at state.runs offset ≡ row_by offset state.start (Some state.runs)
    go true is = readable.below offset is ∙ sym (ap (λ (b : Bool). cond b None (option_or (last_row state.runs offset) None)) is)
    go false is =
        sym (ap (λ (b : Bool). cond b None (option_or (last_row state.runs offset) None)) is
        ∙ or_none (last_row state.runs offset) ∙ last_row_at state.runs offset readable.canonical)

  state_known : Known (history_read (Some state)) (Some state)
  state_known = (
    state,
    refl,
    record {
      state_epoch = refl;
      leader_epoch = refl;
      start = sym (start_same state.start);
      canonical = readable.canonical;
      rows = rows_read;
    },
  )

-- ---- states that disks may keep

abbrev AllReadable : ShareStates → Type 0
AllReadable states = AllByRecursion (λ e. IsReadable e.1) states

found_known : (states : ShareStates) (key : KeyParts) → AllReadable states
    → Known (history_read (share_state_at states key)) (share_state_at states key)
found_known [] key all = refl
found_known (e ∷ states) key all = go (is_at (key_cmp key) e.0) (found_known states key all.1) where
  go : (b : Bool) → Known (history_read (share_state_at states key)) (share_state_at states key)
      → Known (history_read (cond b (Some e.1) (share_state_at states key))) (cond b (Some e.1) (share_state_at states key))
  go true ih = state_known e.1 all.0
  go false ih = ih

tells : (first : ShareStates) → Rises key_cmp keys_total keys_exact first → AllReadable first → StatesTellHistories first
tells first rises readable calls last done key =
    let histories : Histories = λ key. history_read (share_state_at first key) in
    let begins : AreKnown histories first = record { rises = rises; known = λ key. found_known first key readable } in
    told_by (history_after key (histories key) calls) (share_state_at last key) ((all_known calls histories first last done begins).known key)

pub none_tells : StatesTellHistories []
none_tells = tells [] tt tt

-- ---- what is read from disks is such

abbrev KeptReadable : KeptState → Type 0
KeptReadable kept = IsReadable kept.view

laid_readable : (start : ℤ) (under over runs : List Run) (state_epoch leader_epoch : ℤ) → AreLaid start under over runs
    → IsReadable (record { state_epoch = state_epoch; leader_epoch = leader_epoch; start = start; runs = runs })
laid_readable start under over runs state_epoch leader_epoch laid = record {
  canonical = laid.canonical;
  below = λ offset is.
      laid.rows offset ∙ ap (λ (b : Bool). cond b None (option_or (row_at over offset) (row_at under offset))) is;
}

record AreReadable (entries : Entries) : Type 0 where
  rises : Rises key_cmp keys_total keys_exact entries
  all : AllByRecursion (λ e. KeptReadable e.1) entries

record_read : (old : Entries) (r : StateRecord) (new : Entries) → FollowsRecord old r new → AreReadable old → AreReadable new
record_read old (Snapshot state) new f was = subst AreReadable (sym f.is) (record {
  rises = rises_set key_cmp keys_total keys_exact state.key (snapshot_of state f.runs) old was.rises;
  all = all_with KeptReadable old state.key (snapshot_of state f.runs) was.all
      (laid_readable state.start [] state.runs f.runs state.state_epoch state.leader_epoch f.laid);
})
record_read old (Update state) new f was = subst AreReadable (sym f.is) (record {
  rises = rises_set key_cmp keys_total keys_exact state.key (update_of f.kept state f.runs) old was.rises;
  all = all_with KeptReadable old state.key (update_of f.kept state f.runs) was.all
      (laid_readable (start_after f.kept.view.start state.start) f.kept.view.runs state.runs f.runs state.state_epoch state.leader_epoch f.laid);
})
record_read old (Removal key) new f was = subst AreReadable (sym f.is) (record {
  rises = rises_removed key_cmp keys_total keys_exact (is_at (key_cmp key)) old was.rises;
  all = all_without KeptReadable old key was.all;
})
record_read old (Head generation) new f was = absurd f
record_read old Seal new f was = absurd f

all_read : (frames : List (List ℕ)) (old new : Entries) → AreAccepted old frames new → AreReadable old → AreReadable new
all_read [] old new is was = subst AreReadable (sym is) was
all_read (frame ∷ frames) old new a was = all_read frames a.0 new a.2 (record_read old a.1.written a.0 a.1.follows was)

above_of : (key : KeyParts) (es : Entries) → AllByRecursion (λ e. key_cmp key e.0 ≡ Less) es → AllByRecursion (λ e. key_cmp key e.0 ≡ Less) (states_of es)
above_of key [] above = tt
above_of key (e ∷ es) above = (above.0, above_of key es above.1)

rises_of : (es : Entries) → Rises key_cmp keys_total keys_exact es → Rises key_cmp keys_total keys_exact (states_of es)
rises_of [] rises = tt
rises_of (e ∷ es) rises = (above_of e.0 es rises.0, rises_of es rises.1)

all_of : (es : Entries) → AllByRecursion (λ e. KeptReadable e.1) es → AllReadable (states_of es)
all_of [] all = tt
all_of (e ∷ es) all = (all.0, all_of es all.1)

pub stored_tell : (first second : List ℕ) (states : ShareStates) → StandForStates first second states → StatesTellHistories states
stored_tell first second states s =
    let read = all_read _ [] s.0 s.1.taken (record { rises = tt; all = tt }) in
    subst StatesTellHistories (sym s.2) (tells (states_of s.0) (rises_of s.0 read.rises) (all_of s.0 read.all))
