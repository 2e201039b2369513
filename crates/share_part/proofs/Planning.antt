-- The table that a group has, or would get.
use Rattle.std.proofs.Common.{◌≡◌, ◌≤◌, ◌∙◌, ◌++◌, refl, sym, ap, subst, arith, cond, ℕ, ℤ, pos, List, [], Option, Some, None}
use Rattle.std.specs.Prelude.{IfOk, IsSome, Result, Ok, Err, nat_lt, unwrap_or}
use Rattle.std.specs.BTreeMap.{is_at}
use Rattle.std.specs.Cmp.Lexicographic.{slice_cmp}
use Rattle.std.specs.Map.{lookup}
use Rattle.std.specs.Option.{option_map}
use Rattle.std.specs.Ordering.{nat_cmp}
use Rattle.flex_fields.specs.declared.fault.NoMemory.{NoMemory as want}
use Rattle.share_model.specs.ForeignRules.{size_of}
use Rattle.share_model.specs.ForeignRules.{share_state_at}
use Rattle.share_model.specs.Held.{Held, hold_at}
use Rattle.share_model.specs.Keys.{KeyParts}
use Rattle.share_model.specs.Logs.{IsLog}
use Rattle.part_log.specs.Starts.{Log}
use Rattle.share_model.specs.Runs.{IsCanonical, row_at}
use Rattle.share_model.specs.declared.hold.Hold.{Hold}
use Rattle.share_model.specs.declared.row.Row.{Row}
use Rattle.share_model.specs.ShareStates.{ShareState}
use Rattle.share_model.specs.declared.run.Run.{Run}
use Rattle.share_model.specs.declared.visit.ThenOutcome.{ThenOutcome}
use Rattle.share_model.specs.declared.visit.ThenOutcome.TheVariants.{Done}
use Rattle.share_coord.specs.Calls.{IsInitialised}
use Rattle.share_coord.specs.Holding.{WritesOnce}
use Rattle.share_coord.specs.Parts.{StoreParts}
use Rattle.share_coord.specs.Recorded.{IsInitRecord, StoresOne}
use Rattle.share_coord.specs.Stored.{Entries, kept_at, snapshot_frames}
use Rattle.share_coord.specs.declared.fault.CoordFault.{CoordFault}
use Rattle.share_part.specs.Collecting.{IsPlanOf, LieAtSlots, left_by}
use Rattle.share_part.specs.Foreseeing.{HasChange, IsPlanBehind}
use Rattle.share_part.specs.Settling.{Acts, Change, IsChange, acted, held_after, stored_after}
use Rattle.share_part.specs.Walks.{acquired}
use Rattle.share_part.specs.declared.limits.Limits.{Limits}
use Rattle.share_part.specs.declared.plan.Plan.{Plan}
use Rattle.share_part.proofs.Foreseen.{acquired_same, changed_go_out, changed_lie, same_goes}
use Rattle.share_part.specs.Hosting.{PartConfParts, AreHeldWell, AreHosted, HoldsWell, key_of}
use Rattle.share_coord.specs.States.{states_of}
use Rattle.share_part.specs.Making.{IsTableRecord, MakesOnce, MakesTableOnce, Tells, state_for}
use Rattle.share_part.specs.Shards.{first_start, held_in, held_of, new_state}
use Rattle.share_part.specs.Tables.{MayGoOut, Table, delivery_of, table_of}
use Rattle.share_part.proofs.Advancing.{start_above}
use Rattle.share_part.proofs.Seeing.{goes_out, starts_above, state_seen, view_of}
use Rattle.share_part.proofs.Writing.{slot_of}
use Rattle.edge_io.specs.Views.{DiskView}

module _ {W : Type 0} (holding : W → Held) (conf : PartConfParts) (log : Log) (entries : Entries) (windows : List (List ℕ × W)) (group : List ℕ) where
  pub rows_go_out : (state : ShareState) → Some state ≡ option_map view_of (kept_at entries (key_of conf group)) → AreHosted conf log (states_of entries) → MayGoOut state.runs
  rows_go_out state is h = goes_out conf log (states_of entries) (key_of conf group) state h (state_seen entries (key_of conf group) ∙ sym is)

  pub table_above : (state : ShareState) → Some state ≡ option_map view_of (kept_at entries (key_of conf group)) → AreHosted conf log (states_of entries)
      → log.start ≤ size_of state.start
  table_above state is h = starts_above conf log (states_of entries) (key_of conf group) state h (state_seen entries (key_of conf group) ∙ sym is)

  state_by : (o : Option ShareState) → o ≡ option_map view_of (kept_at entries (key_of conf group)) → state_for conf log entries group ≡ unwrap_or o (new_state conf log)
  state_by o is = ap (λ (s : Option ShareState). unwrap_or s (new_state conf log)) (state_seen entries (key_of conf group) ∙ sym is)

  held_by : (w : W) → Some w ≡ lookup (is_at (slice_cmp nat_cmp group)) windows → holding w ≡ held_in holding windows group
  held_by w is = ap (held_of holding) is

  table_by : (state : ShareState) (w : W) (start : ℕ) (rows : List Run) → state_for conf log entries group ≡ state → Some w ≡ lookup (is_at (slice_cmp nat_cmp group)) windows
      → start ≡ size_of state.start → rows ≡ state.runs
      → ◌≡◌ {A = Table} (record { start = start; rows = rows; held = holding w }) (table_of (state_for conf log entries group) (held_in holding windows group))
  table_by state w start rows its there at are =
      let s : start ≡ size_of (state_for conf log entries group).start = at ∙ ap (λ (x : ShareState). size_of x.start) (sym its) in
      let r : rows ≡ (state_for conf log entries group).runs = are ∙ ap (λ (x : ShareState). x.runs) (sym its) in
      let h = held_by w there in
      λ i. record { start = s i; rows = r i; held = h i }

  pub table_there : (state : ShareState) → Some state ≡ option_map view_of (kept_at entries (key_of conf group)) → (w : W) → Some w ≡ lookup (is_at (slice_cmp nat_cmp group)) windows
      → (start : ℕ) (rows : List Run) → start ≡ size_of state.start → rows ≡ state.runs
      → ◌≡◌ {A = Table} (record { start = start; rows = rows; held = holding w }) (table_of (state_for conf log entries group) (held_in holding windows group))
  table_there state is w there start rows at are = table_by state w start rows (state_by (Some state) is) there at are

  pub table_new : None ≡ option_map view_of (kept_at entries (key_of conf group)) → (w : W) → Some w ≡ lookup (is_at (slice_cmp nat_cmp group)) windows
      → (start : ℕ) (rows : List Run) → start ≡ first_start conf.reset log → rows ≡ []
      → ◌≡◌ {A = Table} (record { start = start; rows = rows; held = holding w }) (table_of (state_for conf log entries group) (held_in holding windows group))
  table_new is w there start rows at are = table_by (new_state conf log) w start rows (state_by None is) there at are

  -- ---- what a walk meets lies at slots

  pub lie_there : (state : ShareState) → Some state ≡ option_map view_of (kept_at entries (key_of conf group)) → AreHosted conf log (states_of entries)
      → HoldsWell log.batches (share_state_at (states_of entries) (key_of conf group)) (held_in holding windows group) → IsLog log.batches
      → (w : W) → Some w ≡ lookup (is_at (slice_cmp nat_cmp group)) windows → (rows : List Run) → rows ≡ state.runs → LieAtSlots log.batches rows (holding w)
  lie_there state is hosted well sound w there rows are =
      let known : share_state_at (states_of entries) (key_of conf group) ≡ Some state = state_seen entries (key_of conf group) ∙ sym is in
      let held : AreHeldWell log.batches (size_of state.start) (held_in holding windows group) = subst (λ (o : Option ShareState). HoldsWell log.batches o (held_in holding windows group)) known well in
      record {
        held_at = λ o hold at. slot_of 2000 log.batches (size_of state.start) o sound (held o hold (sym (ap (λ (h : Held). hold_at h o) (held_by w there)) ∙ at)).slot;
        stored_at = λ o row at. slot_of 2000 log.batches (size_of state.start) o sound ((hosted (key_of conf group) state known).rows o row (sym (ap (λ (r : List Run). row_at r o) are) ∙ at)).slot;
      }

  pub lie_new : None ≡ option_map view_of (kept_at entries (key_of conf group))
      → HoldsWell log.batches (share_state_at (states_of entries) (key_of conf group)) (held_in holding windows group)
      → (w : W) → Some w ≡ lookup (is_at (slice_cmp nat_cmp group)) windows → (rows : List Run) → rows ≡ [] → LieAtSlots log.batches rows (holding w)
  lie_new is well w there rows are =
      let known : share_state_at (states_of entries) (key_of conf group) ≡ None = state_seen entries (key_of conf group) ∙ sym is in
      let none : held_in holding windows group ≡ [] = subst (λ (o : Option ShareState). HoldsWell log.batches o (held_in holding windows group)) known well in
      record {
        held_at = λ o hold at. absurd (let never : ◌≡◌ {A = Option Hold} None (Some hold) = sym (ap (λ (h : Held). hold_at h o) (held_by w there ∙ none)) ∙ at in let clash : ⊥ = cc in clash);
        stored_at = λ o row at. absurd (let never : ◌≡◌ {A = Option Row} None (Some row) = sym (ap (λ (r : List Run). row_at r o) are) ∙ at in let clash : ⊥ = cc in clash);
      }

pub made_table : {D : Type 0} (seen : D → DiskView) (Failed : D → D → Type 0)
    (conf : PartConfParts) (group : List ℕ) (log : Log) (old new : StoreParts D) (result : Result ThenOutcome want) (key : KeyParts) (start : ℕ)
    → key ≡ key_of conf group → start ≡ first_start conf.reset log
    → (IsSome (kept_at old.entries key) → (new ≡ old) × (result ≡ Ok Done))
    → (kept_at old.entries key ≡ None → MakesOnce seen Failed (IsInitialised old.entries key (pos 0) (pos start)) (IsTableRecord old.entries key start) old new result)
    → MakesTableOnce seen Failed conf group log old new result
made_table seen Failed conf group log old new result key start is at there absent = record {
  there = subst (λ (k : KeyParts). IsSome (kept_at old.entries k) → (new ≡ old) × (result ≡ Ok Done)) is there;
  absent = subst (λ (k : KeyParts). kept_at old.entries k ≡ None
      → MakesOnce seen Failed (IsInitialised old.entries k (pos 0) (pos (first_start conf.reset log))) (IsTableRecord old.entries k (first_start conf.reset log)) old new result) is
      (subst (λ (s : ℕ). kept_at old.entries key ≡ None → MakesOnce seen Failed (IsInitialised old.entries key (pos 0) (pos s)) (IsTableRecord old.entries key s) old new result) at absent);
}

-- a table whose write was answered, by the start as it was given
pub made_of : {D : Type 0} (seen : D → DiskView) (Failed : D → D → Type 0) (old new : StoreParts D) (key : KeyParts) (z : ℤ) (done : Result (Unit {0}) CoordFault)
    (start : ℕ) → z ≡ pos start → (result : Result ThenOutcome want) → Tells done result → WritesOnce seen Failed (IsInitialised old.entries key (pos 0) z) old new done
    → StoresOne seen (snapshot_frames old.entries) (IsInitRecord old.entries key (pos 0) z) old.journal new.journal done
    → MakesOnce seen Failed (IsInitialised old.entries key (pos 0) (pos start)) (IsTableRecord old.entries key start) old new result
made_of seen Failed old new key z done start is result tells once one = record {
  done = done;
  tells = tells;
  once = subst (λ (n : ℤ). WritesOnce seen Failed (IsInitialised old.entries key (pos 0) n) old new done) is once;
  one = subst (λ (n : ℤ). StoresOne seen (snapshot_frames old.entries) (IsInitRecord old.entries key (pos 0) n) old.journal new.journal done) is one;
}

-- ---- the table that a group will have

module _ {W : Type 0} (holding : W → Held) (conf : PartConfParts) (log : Log) (entries : Entries) (windows : List (List ℕ × W)) (group : List ℕ)
    (acts : Acts) (change : Change) (found : HasChange conf.limit acts log.batches (held_in holding windows group) (share_state_at (states_of entries) (key_of conf group)) change) where
  abbrev was : Held
  was = held_in holding windows group

  -- it has one
  pub none_lost : None ≡ option_map view_of (kept_at entries (key_of conf group)) → ⊥
  none_lost is =
      let never : ◌≡◌ {A = Option ShareState} None (Some found.0) = sym (state_seen entries (key_of conf group) ∙ sym is) ∙ found.1 in let clash : ⊥ = cc in clash

  module _ (state : ShareState) (there : Some state ≡ option_map view_of (kept_at entries (key_of conf group))) (w : W)
      (at : Some w ≡ lookup (is_at (slice_cmp nat_cmp group)) windows) (start : ℕ) (rows changed : List Run) (start_is : start ≡ size_of state.start)
      (rows_are : rows ≡ state.runs) (changed_are : changed ≡ change.runs) (next_start : ℕ) (next_is : next_start ≡ unwrap_or change.start start) where
    table_is : ◌≡◌ {A = Table} (record { start = start; rows = rows; held = holding w }) (table_of (state_for conf log entries group) was)
    table_is = table_there holding conf log entries windows group state there w at start rows start_is rows_are

    same_state : found.0 ≡ state_for conf log entries group
    same_state = sym (ap (λ (o : Option ShareState). unwrap_or o (new_state conf log)) found.1)

    its_change : IsChange conf.limit acts log.batches (record { start = start; rows = rows; held = holding w }) change
    its_change = subst (λ (t : Table). IsChange conf.limit acts log.batches t change) (ap (λ (s : ShareState). table_of s was) same_state ∙ sym table_is) found.2

    are : (o : ℕ) → row_at changed o ≡ cond (nat_lt o next_start) None (acted conf.limit acts (holding w) o)
    are o = ap (λ (l : List Run). row_at l o) changed_are ∙ its_change.settles.rows o
        ∙ ap (λ (n : ℕ). cond (nat_lt o n) None (acted conf.limit acts (holding w) o)) (sym next_is)

    pub changed_canonical : IsCanonical changed
    changed_canonical = subst IsCanonical (sym changed_are) its_change.settles.canonical

    pub changed_out : conf.limit ≤ 10 → MayGoOut changed
    changed_out few = changed_go_out conf.limit acts (holding w) changed next_start are few

    pub changed_above : AreHosted conf log (states_of entries) → log.start ≤ next_start
    changed_above hosted =
        let s = (hosted (key_of conf group) state (state_seen entries (key_of conf group) ∙ sym there)).start in
        let size : size_of state.start ≡ s.0 = ap size_of s.1 in
        let low = s.2 in
        let high = s.3 in
        let le = start_above log.batches (stored_after conf.limit acts (record { start = start; rows = rows; held = holding w })) start (unwrap_or change.start start) log.start
        its_change.settles.start_is (omega (arith, low, size, start_is)) (omega (arith, high, size, start_is)) in
        omega (arith, le, next_is)

    pub changed_lies : LieAtSlots log.batches rows (holding w) → LieAtSlots log.batches (changed ++ rows) (left_by changed (holding w))
    changed_lies lie = changed_lie conf.limit acts (holding w) changed next_start are log.batches rows lie

    -- the walk is that over the table that they leave
    pub behind : IsLog log.batches → (limits : Limits) (plan : Plan)
        → IsPlanOf log.batches plan (acquired log.batches (record { start = next_start; rows = changed ++ rows; held = left_by changed (holding w) }) limits)
        → IsPlanBehind conf.limit acts log.batches (table_of (state_for conf log entries group) was) change limits plan
    behind sound limits plan planned = subst (λ (t : Table). IsPlanBehind conf.limit acts log.batches t change limits plan) table_is (λ next left.
        let size : size_of next.start ≡ next_start = ap size_of left.start ∙ sym next_is in
        let goes : (o : ℕ) → next_start ≤ o → delivery_of (record { start = next_start; rows = changed ++ rows; held = left_by changed (holding w) }) o
        ≡ delivery_of (table_of next (held_after acts (holding w))) o =
        same_goes conf.limit acts (holding w) changed next_start are rows next.runs (λ o. left.rows o ∙ ap (λ (n : ℕ). cond (nat_lt o n) None (stored_after conf.limit acts (record { start = start; rows = rows; held = holding w }) o)) (sym next_is)) in
        subst (IsPlanOf log.batches plan) (acquired_same log.batches sound (record { start = next_start; rows = changed ++ rows; held = left_by changed (holding w) })
        (table_of next (held_after acts (holding w))) next_start goes limits refl size) planned)

-- what holds of each plan holds of the one that is found
pub all_ok : (P Q : Plan → Type 0) (r : Result Plan want) → ((plan : Plan) → P plan → Q plan) → IfOk r P → IfOk r Q
all_ok P Q (Ok plan) f p = f plan p
all_ok P Q (Err e) f p = tt
