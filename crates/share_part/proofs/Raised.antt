-- Tables whose start is raised, and what is held of them: they stay ones that a partition may have.
use Rattle.std.proofs.Common.{◌≡◌, ◌∙◌, refl, sym, ap, subst, arith, ℕ, zero, suc, ◌+◌, ◌<◌, ◌≤◌, pos, negsuc, List, [], ◌∷◌, Option, Some, None, Bool, true, false, cond}
use Rattle.std.specs.Prelude.{ℤ, ◌<ℤ◌, ◌≤ℤ◌, filter, is_none, not, nat_le, nat_lt, ◌&&◌}
use Rattle.std.specs.BTreeMap.{is_at}
use Rattle.std.specs.Cmp.Lexicographic.{slice_cmp}
use Rattle.std.specs.Map.{lookup}
use Rattle.std.specs.Map.Calls.{RetainsPairs}
use Rattle.std.specs.Option.{option_map}
use Rattle.std.specs.Ordering.{nat_cmp}
use Rattle.std.proofs.lemmas.Bool.Decides.{nat_tests}
use Rattle.std.proofs.lemmas.Int.{ints}
use Rattle.offset_runs.specs.Parts.{from_on}
use Rattle.offset_runs.proofs.Cuts.{from_on-canonical, from_on-row_at, lt_no}
use Rattle.share_model.specs.ForeignRules.{ShareStates, share_state_at, size_of}
use Rattle.share_model.specs.Held.{Held, hold_at, without_range}
use Rattle.share_model.specs.Keys.{KeyParts}
use Rattle.share_model.specs.Logs.{Batch, IsLog, end_of}
use Rattle.share_model.specs.Runs.{IsCanonical, row_at}
use Rattle.share_model.specs.ShareStates.{ShareState}
use Rattle.share_model.specs.declared.ack.AckKind.{AckKind}
use Rattle.share_model.specs.declared.ack.AckKind.TheVariants.{Gap}
use Rattle.share_model.specs.declared.hold.Hold.{Hold}
use Rattle.share_model.specs.declared.row.Row.{Row}
use Rattle.share_model.specs.declared.run.Run.{Run}
use Rattle.part_log.specs.Starts.{Log}
use Rattle.share_coord.specs.Raising.{raised, raised_states, starts_below}
use Rattle.share_coord.proofs.Keys.{some_is}
use Rattle.share_coord.proofs.Raising.{below_size, raised_at, raised_below, raised_not}
use Rattle.share_part.specs.Deleting.{holds_from, target_of}
use Rattle.share_part.specs.Hosting.{AreHosted, IsHosted, KeepsHolds, PartConfParts, key_of}
use Rattle.share_part.specs.Settling.{Acts, held_after}
use Rattle.share_part.specs.Shards.{IsPendingHosted, held_in, held_of}
use Rattle.share_part.proofs.Holding.{AreKept, left_held}
use Rattle.share_part.proofs.Slotting.{le_no, le_yes}
use Rattle.share_part.proofs.Staying.{later_slots}

-- ---- rows

left_by : (o n : ℕ) (b : Bool) (a : Option Row) (row : Row) → nat_lt o n ≡ b → cond b None a ≡ Some row → (n ≤ o) × (a ≡ Some row)
left_by o n true a row e at = absurd (let clash : ⊥ = cc in clash)
left_by o n false a row e at = (lt_no o n e, at)

-- a row that is left lies from the start on, and was there
row_left : (n : ℕ) (runs : List Run) (o : ℕ) (row : Row) → IsCanonical runs → row_at (from_on runs n) o ≡ Some row → (n ≤ o) × (row_at runs o ≡ Some row)
row_left n runs o row canonical at = left_by o n (nat_lt o n) (row_at runs o) row refl (sym (from_on-row_at runs n o canonical) ∙ at)

-- ---- states

module _ (conf : PartConfParts) (log : Log) (n : ℕ) (is_log : IsLog log.batches) (later : log.start ≤ n) (within : n ≤ end_of log.batches) where
  abbrev Later : Log
  Later = record { batches = log.batches; start = n }

  one_raised : (key : KeyParts) (state : ShareState) → IsHosted conf log key state → IsHosted conf Later key (raised n state)
  one_raised key state was = by (starts_below state.start n) refl where
    by : (b : Bool) → starts_below state.start n ≡ b → IsHosted conf Later key (raised n state)
    by true low = subst (IsHosted conf Later key) (sym (raised_below state n low)) (record {
      key_is = was.key_is;
      epochs = was.epochs;
      start = (n, refl, omega arith, within);
      canonical = from_on-canonical state.runs n was.canonical;
      rows = λ o row at.
          let left = row_left n state.runs o row was.canonical at in
          let r = was.rows o row left.1 in
          record { slot = later_slots 2000 log.batches (size_of state.start) n o is_log (below_size state.start n low) left.0 r.slot; delivered = r.delivered; again = r.again };
    })
    by false high = subst (IsHosted conf Later key) (sym (raised_not state n high)) (record {
      key_is = was.key_is;
      epochs = was.epochs;
      start = (was.start.0, was.start.1, lt_no was.start.0 n (sym (ap (λ (z : ℤ). starts_below z n) was.start.1) ∙ high), was.start.3);
      canonical = was.canonical;
      rows = was.rows;
    })

  found_raised : (key : KeyParts) (o : Option ShareState) → ((state : ShareState) → o ≡ Some state → IsHosted conf log key state)
      → (state : ShareState) → option_map (raised n) o ≡ Some state → IsHosted conf Later key state
  found_raised key None h state at = absurd (let clash : ⊥ = cc in clash)
  found_raised key (Some was) h state at =
      let same : raised n was ≡ state = some_is (raised n was) state at in
      subst (IsHosted conf Later key) same (one_raised key was (h was refl))

pub hosted_raised : (conf : PartConfParts) (log : Log) (n : ℕ) (states : ShareStates) → IsLog log.batches → log.start ≤ n → n ≤ end_of log.batches
    → AreHosted conf log states → AreHosted conf (record { batches = log.batches; start = n }) (raised_states n states)
hosted_raised conf log n states is_log later within h key state at =
    found_raised conf log n is_log later within key (share_state_at states key) (h key) state (sym (raised_at n states key) ∙ at)

pub pending_raised : (conf : PartConfParts) (log : Log) (n : ℕ) (pending : Option ShareStates) → IsLog log.batches → log.start ≤ n → n ≤ end_of log.batches
    → IsPendingHosted conf log pending → IsPendingHosted conf (record { batches = log.batches; start = n }) (option_map (raised_states n) pending)
pending_raised conf log n None is_log later within h = tt
pending_raised conf log n (Some states) is_log later within h = hosted_raised conf log n states is_log later within h

-- ---- holds

-- what is held below an offset, as if acts were done on it
abbrev gap_unless : Bool → Option AckKind
gap_unless true = None
gap_unless false = Some Gap

abbrev Below : ℕ → Acts
Below start o = gap_unless (nat_le start o)

none_below : (b : Bool) → is_none (gap_unless b) ≡ b
none_below true = refl
none_below false = refl

from_after : (start : ℕ) (held : Held) → held_after (Below start) held ≡ holds_from start held
from_after start held = λ i. filter (λ entry. none_below (nat_le start entry.0) i) held

act_by : (start o : ℕ) (b : Bool) → nat_le start o ≡ b → gap_unless b ≡ None → start ≤ o
act_by start o true e none = le_yes start o e
act_by start o false e none = absurd (let clash : ⊥ = cc in clash)

left_from : (start : ℕ) (held : Held) (o : ℕ) (hold : Hold) → hold_at (holds_from start held) o ≡ Some hold → (hold_at held o ≡ Some hold) × (start ≤ o)
left_from start held o hold at =
    let l = left_held (Below start) held o hold (ap (λ (h : Held). hold_at h o) (from_after start held) ∙ at) in
    (l.0, act_by start o (nat_le start o) refl l.1)

module _ (log : List Batch) (n : ℕ) (held : Held) (is_log : IsLog log) where
  state_kept : (state : ShareState) → IsCanonical state.runs → KeepsHolds log (Some state) held → KeepsHolds log (Some (raised n state)) (holds_from n held)
  state_kept state canonical k = by (starts_below state.start n) refl where
    by : (b : Bool) → starts_below state.start n ≡ b → KeepsHolds log (Some (raised n state)) (holds_from n held)
    by true low = subst (λ (s : ShareState). KeepsHolds log (Some s) (holds_from n held)) (sym (raised_below state n low)) (
      λ o hold at.
          let l = left_from n held o hold at in
          let h = k.0 o hold l.0 in
          record { slot = later_slots 2000 log (size_of state.start) n o is_log (below_size state.start n low) l.1 h.slot; delivered = h.delivered },
      λ o hold row at is.
          let l = left_from n held o hold at in
          k.1 o hold row l.0 (row_left n state.runs o row canonical is).1,
    )
    by false high = subst (λ (s : ShareState). KeepsHolds log (Some s) (holds_from n held)) (sym (raised_not state n high)) (
      λ o hold at. k.0 o hold (left_from n held o hold at).0,
      λ o hold row at is. k.1 o hold row (left_from n held o hold at).0 is,
    )

  option_kept : (o : Option ShareState) → ((state : ShareState) → o ≡ Some state → IsCanonical state.runs) → KeepsHolds log o held
      → KeepsHolds log (option_map (raised n) o) (holds_from n held)
  option_kept None canonical k = (ap (holds_from n) k.0, tt)
  option_kept (Some state) canonical k = state_kept state (canonical state refl) k

pub kept_raised : (conf : PartConfParts) (log : Log) (n : ℕ) (states : ShareStates) (held : List ℕ → Held) → IsLog log.batches → AreHosted conf log states
    → AreKept conf log.batches states held → AreKept conf log.batches (raised_states n states) (λ group. holds_from n (held group))
kept_raised conf log n states held is_log hosted k group =
    subst (λ (o : Option ShareState). KeepsHolds log.batches o (holds_from n (held group))) (sym (raised_at n states (key_of conf group)))
    (option_kept log.batches n (held group) is_log (share_state_at states (key_of conf group)) (λ state at. (hosted (key_of conf group) state at).canonical) (k group))

-- ---- windows

-- the offsets up to the one before
pub range_from : (start last : ℕ) (held : Held) → last + 1 ≡ start → without_range 0 last held ≡ holds_from start held
range_from start last held is = λ i. filter (λ entry. tests entry.0 (nat_le start entry.0) refl i) held where
  tests : (o : ℕ) (b : Bool) → nat_le start o ≡ b → not (nat_le 0 o && nat_le o last) ≡ nat_le start o
  tests o true e =
      let le = le_yes start o e in
      let from : nat_le 0 o ≡ true = grind (arith, nat_tests) in
      let past : nat_le o last ≡ false = (let out : last < o = omega (arith, le, is) in grind (arith, nat_tests)) in
      (λ i. not (from i && past i)) ∙ sym e
  tests o false e =
      let lt = le_no start o e in
      let from : nat_le 0 o ≡ true = grind (arith, nat_tests) in
      let within : nat_le o last ≡ true = (let le : o ≤ last = omega (arith, lt, is) in grind (arith, nat_tests)) in
      (λ i. not (from i && within i)) ∙ sym e

module _ {F W : Type 0} (T : F → List ℕ → W → Bool → W → F → Type 0) (I : F → Type 0) (holding : W → Held) (start : ℕ)
    (visits : (f : F) (k : List ℕ) (v : W) (b : Bool) (w : W) (g : F) → I f → T f k v b w g → (b ≡ true) × (holding w ≡ holds_from start (holding v)) × I g) where
  pub windows_raised : (f : F) (es new : List (List ℕ × W)) → I f → RetainsPairs T f es new → (group : List ℕ)
      → held_in holding new group ≡ holds_from start (held_in holding es group)
  windows_raised f [] new i r group = ap (λ (l : List (List ℕ × W)). held_in holding l group) r
  windows_raised f (e ∷ es) new i r group =
      let a = visits f e.0 e.1 r.0 r.1 r.2 i r.4 in
      let rest = windows_raised r.2 es r.3 a.2 r.5 group in
      ap (λ (l : List (List ℕ × W)). held_in holding l group) (r.6 ∙ ap (λ (b : Bool). cond b ((e.0, r.1) ∷ r.3) r.3) a.0)
      ∙ by_test (is_at (slice_cmp nat_cmp group) e.0) r.1 r.3 a.1 rest
    where
      by_test : (b : Bool) (w : W) (left : List (List ℕ × W)) → holding w ≡ holds_from start (holding e.1)
          → held_in holding left group ≡ holds_from start (held_in holding es group)
          → held_of holding (cond b (Some w) (lookup (is_at (slice_cmp nat_cmp group)) left))
          ≡ holds_from start (held_of holding (cond b (Some e.1) (lookup (is_at (slice_cmp nat_cmp group)) es)))
      by_test true w left first rest = first
      by_test false w left first rest = rest

-- ---- the offset below which records go

pub target_end : (log : Log) (to : ℤ) → to ≡ negsuc 0 → target_of log to ≡ Some (end_of log.batches)
target_end log to is = ap (target_of log) is

pub target_low : (log : Log) (to : ℤ) → to <ℤ pos 0 → (to ≡ negsuc 0 → ⊥) → target_of log to ≡ None
target_low log (pos n) low not = absurd (omega (arith, ints, low))
target_low log (negsuc zero) low not = absurd (not refl)
target_low log (negsuc (suc n)) low not = refl

target_by : (n end : ℕ) (b : Bool) → nat_le n end ≡ b → cond (nat_le n end) (Some n) None ≡ cond b (Some n) None
target_by n end b e = ap (λ (t : Bool). cond t (Some n) None) e

pub target_in : (log : Log) (to : ℤ) (n : ℕ) → pos 0 ≤ℤ to → n ≡ size_of to → n ≤ end_of log.batches → target_of log to ≡ Some n
target_in log (pos m) n from is le =
    let yes : nat_le m (end_of log.batches) ≡ true = (let within : m ≤ end_of log.batches = omega (arith, is, le) in grind (arith, nat_tests)) in
    target_by m (end_of log.batches) true yes ∙ ap (λ (k : ℕ). Some k) (sym is)
target_in log (negsuc m) n from is le = absurd (omega (arith, ints, from))

pub target_out : (log : Log) (to : ℤ) (n : ℕ) → pos 0 ≤ℤ to → n ≡ size_of to → end_of log.batches < n → target_of log to ≡ None
target_out log (pos m) n from is lt =
    let no : nat_le m (end_of log.batches) ≡ false = (let out : end_of log.batches < m = omega (arith, is, lt) in grind (arith, nat_tests)) in
    target_by m (end_of log.batches) false no
target_out log (negsuc m) n from is lt = absurd (omega (arith, ints, from))
