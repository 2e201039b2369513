-- A table that acts were stored of is one that a hosted partition may have.
use Rattle.std.proofs.Common.{◌≡◌, ◌⊎◌, ⊎_elim, ◌∙◌, inl, inr, refl, sym, ap, subst, arith, ℕ, zero, suc, ◌+◌, ◌^◌, ◌<◌, ◌≤◌, List, [], ◌∷◌, length, Option, Some, None, Bool, true, false}
use Rattle.std.proofs.lemmas.Bool.{cases_lt}
use Rattle.std.proofs.lemmas.Bool.Decides.{nat_tests}
use Rattle.std.specs.Prelude.{nat_le, nat_lt, ◌&&◌, if◌then◌else◌}
use Rattle.std.specs.List.{AllByRecursion, Contains, list_all}
use Rattle.std.specs.Option.{option_or}
use Rattle.share_model.proofs.Lookups.{row_at-here, row_at-beyond, row_at-none}
use Rattle.share_model.specs.ForeignRules.{size_of}
use Rattle.share_model.specs.Held.{Held, hold_at}
use Rattle.share_model.specs.Logs.{Batch, IsLog, IsNextSlot, IsSlot, RisesFrom, end_of}
use Rattle.share_model.specs.Runs.{IsCanonical, row_at, row_of}
use Rattle.share_model.specs.ShareStates.{ShareState, is_writable}
use Rattle.share_model.specs.declared.ack.AckKind.{AckKind}
use Rattle.share_model.specs.declared.ack.AckKind.TheVariants.{Gap, Accept, Release, Reject}
use Rattle.share_model.specs.declared.hold.Hold.{Hold}
use Rattle.share_model.specs.declared.row.Row.{Row}
use Rattle.share_model.specs.declared.row.RowState.TheVariants.{Available, Archived}
use Rattle.share_model.specs.declared.run.Run.{Run}
use Rattle.lock_index.specs.Windows.{IsRising, RisesFrom as HoldsRise}
use Rattle.share_part.specs.Hosting.{PartConfParts, AreHeldWell, HoldsWell, IsHosted, IsHostedRow, key_of}
use Rattle.share_part.specs.Settling.{Acts, IsNextStart, IsSettled, act_row, settled, stored_after}
use Rattle.share_part.specs.Slots.{and_more, next_slot, slots_from}
use Rattle.share_part.specs.Tables.{table_of}
use Rattle.share_part.proofs.Letting.{found_each}
use Rattle.share_part.proofs.Producing.{front_or, front_in, behind_in, none_in}
use Rattle.share_part.proofs.Slotting.{next_is, next_meets, starting}

-- ---- slots in order

last_below : (e : ℕ) (b : Batch) (log : List Batch) → RisesFrom e (b ∷ log) → b.last < end_of (b ∷ log)
last_below e b [] h = omega arith
last_below e b (c ∷ log) h = omega (arith, h.2.0, h.2.1, last_below (b.last + 1) c log h.2)

pub slot_below_end : (e : ℕ) (log : List Batch) → RisesFrom e log → (o : ℕ) → IsSlot log o → o < end_of log
slot_below_end e [] h o s = absurd s
slot_below_end e (b ∷ []) h o (inl s) = omega (arith, s.1)
slot_below_end e (b ∷ []) h o (inr s) = absurd s
slot_below_end e (b ∷ c ∷ log) h o (inl s) = omega (arith, s.1, last_below e b (c ∷ log) h)
slot_below_end e (b ∷ c ∷ log) h o (inr s) = slot_below_end (b.last + 1) (c ∷ log) h.2 o s

-- one slot more has those
more_slots : (n : ℕ) (log : List Batch) (from o : ℕ) → Contains (slots_from n log from) o → Contains (slots_from (suc n) log from) o
unfolding slots_from
more_slots zero log from o h = absurd (none_in o h)
more_slots (suc n) log from o h = by_next (next_slot log from) h (λ slot. more_slots n log (slot + 1) o)
  where
    by_next : (r : Option ℕ) → Contains (and_more r (λ slot. slots_from n log (slot + 1))) o
        → ((slot : ℕ) → Contains (slots_from n log (slot + 1)) o → Contains (slots_from (suc n) log (slot + 1)) o)
        → Contains (and_more r (λ slot. slots_from (suc n) log (slot + 1))) o
    by_next None h ih = absurd (none_in o h)
    by_next (Some slot) h ih = ⊎_elim (λ e. front_in slot o (slots_from (suc n) log (slot + 1)) e) (λ c. behind_in slot o (slots_from (suc n) log (slot + 1)) (ih slot c))
        (front_or slot o (slots_from n log (slot + 1)) h)

next_later : (log : List Batch) (from later slot : ℕ) → IsLog log → next_slot log from ≡ Some slot → from ≤ later → later ≤ slot → next_slot log later ≡ Some slot
next_later log from later slot is_log at le up =
    let is : IsNextSlot log from (Some slot) = subst (IsNextSlot log from) at (next_meets 0 log is_log from) in
    sym (next_is log later (Some slot) is_log (is.0, up, λ o lo s. is.2 o (omega (arith, lo, le)) s))

-- an offset that is one of so many slots is one of those from a later offset on
pub later_slots : (n : ℕ) (log : List Batch) (from later o : ℕ) → IsLog log → from ≤ later → later ≤ o → Contains (slots_from n log from) o → Contains (slots_from n log later) o
unfolding slots_from
later_slots zero log from later o is_log le up h = absurd (none_in o h)
later_slots (suc n) log from later o is_log le up h = by_next (next_slot log from) refl h (λ slot below. later_slots n log (slot + 1) later o is_log below up)
  where
    by_next : (r : Option ℕ) → next_slot log from ≡ r → Contains (and_more r (λ slot. slots_from n log (slot + 1))) o
        → ((slot : ℕ) → slot + 1 ≤ later → Contains (slots_from n log (slot + 1)) o → Contains (slots_from n log later) o)
        → Contains (and_more (next_slot log later) (λ slot. slots_from n log (slot + 1))) o
    by_next None at h ih = absurd (none_in o h)
    by_next (Some slot) at h ih = elim (cases_lt slot later) [
      | inr ge ↦ subst (λ (r : Option ℕ). Contains (and_more r (λ slot. slots_from n log (slot + 1))) o) (sym (next_later log from later slot is_log at le ge)) h
      | inl lt ↦ ⊎_elim (λ e. absurd (omega (arith, e, lt, up)))
          (λ c. more_slots n log later o (ih slot (omega (arith, lt)) c)) (front_or slot o (slots_from n log (slot + 1)) h)
    ]

-- ---- rows

pub settled_count : (limit : ℕ) (kind : AckKind) (count : ℕ) → (settled limit kind count).count ≡ count
settled_count limit Gap count = refl
settled_count limit Accept count = refl
settled_count limit Release count = refl
settled_count limit Reject count = refl

pub settled_again : (limit : ℕ) (kind : AckKind) (count : ℕ) → (settled limit kind count).state ≡ Available → count < limit
settled_again limit Gap count is = absurd (let clash : ⊥ = cc in clash)
settled_again limit Accept count is = absurd (let clash : ⊥ = cc in clash)
settled_again limit Reject count is = absurd (let clash : ⊥ = cc in clash)
settled_again limit Release count is = by_test (nat_le limit count) refl is
  where
    by_test : (t : Bool) → nat_le limit count ≡ t → (if t then Archived else Available) ≡ Available → count < limit
    by_test true e is = absurd (let clash : ⊥ = cc in clash)
    by_test false e is = grind (arith, nat_tests)

-- a row that is stored after acts is one from before, or that of an act
abbrev pub IsOfAct : ℕ → Option Hold → Row → Type 0
IsOfAct limit hold row = (kind : AckKind) × (its : Hold) × (hold ≡ Some its) × (settled limit kind its.count ≡ row)

some_same : (a b : Row) → ◌≡◌ {A = Option Row} (Some a) (Some b) → a ≡ b
some_same a b e = cc

pub of_act : (limit : ℕ) (kind : Option AckKind) (hold : Option Hold) (row : Row) → act_row limit kind hold ≡ Some row → IsOfAct limit hold row
of_act limit None hold row e = absurd (let clash : ⊥ = cc in clash)
of_act limit (Some kind) None row e = absurd (let clash : ⊥ = cc in clash)
of_act limit (Some kind) (Some hold) row e = (kind, hold, refl, some_same (settled limit kind hold.count) row e)

was_or_act : (limit : ℕ) (kind : Option AckKind) (hold : Option Hold) (was : Option Row) (row : Row) → option_or (act_row limit kind hold) was ≡ Some row
    → (was ≡ Some row) ⊎ IsOfAct limit hold row
was_or_act limit None hold was row e = inl e
was_or_act limit (Some kind) None was row e = inl e
was_or_act limit (Some kind) (Some hold) was row e = inr (kind, hold, refl, some_same (settled limit kind hold.count) row e)

module _ {from : ℕ} (conf : PartConfParts) (log : List Batch) (group : List ℕ) (state : ShareState) (held : Held) (acts : Acts)
    (is_log : IsLog log) (few : conf.limit ≤ 10) (was : IsHosted conf (starting log from) (key_of conf group) state) (well : AreHeldWell log (size_of state.start) held) where
  -- the row of an act at an offset from a start on
  act_hosted : (start offset : ℕ) (row : Row) → size_of state.start ≤ start → start ≤ offset → IsOfAct conf.limit (hold_at held offset) row → IsHostedRow log start offset row
  act_hosted start offset row later up act =
      let h = well offset act.1 act.2 in
      let low : 1 ≤ act.1.count = h.delivered.0 in
      let high : act.1.count ≤ 10 = h.delivered.1 in
      let count : act.1.count ≡ row.count = sym (settled_count conf.limit act.0 act.1.count) ∙ ap (λ (r : Row). r.count) act.3 in
      record {
        slot = later_slots 2000 log (size_of state.start) start offset is_log later up h.slot;
        delivered = (omega (arith, low, count), omega (arith, high, count));
        again = λ free.
            let below : act.1.count < conf.limit = settled_again conf.limit act.0 act.1.count (ap (λ (r : Row). r.state) act.3 ∙ free) in
            omega (arith, below, few, count);
      }

  row_hosted : (start offset : ℕ) (row : Row) → size_of state.start ≤ start → start ≤ offset
      → (row_at state.runs offset ≡ Some row) ⊎ IsOfAct conf.limit (hold_at held offset) row → IsHostedRow log start offset row
  row_hosted start offset row later up (inl old) =
      let r = was.rows offset row old in
      record { slot = later_slots 2000 log (size_of state.start) start offset is_log later up r.slot; delivered = r.delivered; again = r.again }
  row_hosted start offset row later up (inr act) = act_hosted start offset row later up act

  old_start : size_of state.start ≤ end_of log
  old_start = let le = was.start.3 in let at : size_of state.start ≡ was.start.0 = ap size_of was.start.1 in omega (arith, le, at)

  pub start_later : (stored : ℕ → Option Row) (next : ℕ) → IsNextStart log stored (size_of state.start) next → (size_of state.start ≤ next) × (next ≤ end_of log)
  start_later stored next (inl is) = let below = slot_below_end 0 log is_log next is.0.slot in (is.1, omega (arith, below))
  start_later stored next (inr is) = (let at = is.0 in omega (arith, at, old_start), let at = is.0 in omega (arith, at))

  pub from_start : (o start : ℕ) (a : Option Row) (row : Row) → (if nat_lt o start then None else a) ≡ Some row → (start ≤ o) × (a ≡ Some row)
  from_start o start a row e = by_test (nat_lt o start) refl e
    where
      by_test : (t : Bool) → nat_lt o start ≡ t → (if t then None else a) ≡ Some row → (start ≤ o) × (a ≡ Some row)
      by_test true is e = absurd (let clash : ⊥ = cc in clash)
      by_test false is e = (grind (arith, nat_tests), e)

  pub settled_hosted : (next : ShareState) → IsSettled conf.limit acts log (table_of state held) next → IsHosted conf (starting log from) (key_of conf group) next
  settled_hosted next s =
      let starts = start_later (stored_after conf.limit acts (table_of state held)) s.start s.start_is in
      record {
        key_is = refl;
        epochs = s.epochs;
        start = (
          s.start,
          s.start_told,
          (let le = was.start.2 in let at : size_of state.start ≡ was.start.0 = ap size_of was.start.1 in let later = starts.0 in omega (arith, le, at, later)),
          starts.1,
        );
        canonical = s.canonical;
        rows = λ offset row at.
            let there = from_start offset s.start (stored_after conf.limit acts (table_of state held) offset) row (sym (s.rows offset) ∙ at) in
            subst (λ (z : ℕ). IsHostedRow log z offset row) (sym (ap size_of s.start_told))
            (row_hosted s.start offset row starts.0 there.0 (was_or_act conf.limit (acts offset) (hold_at held offset) (row_at state.runs offset) row there.1));
      }

-- ---- how many runs there are, and that they can be written

abbrev Rising : ℕ → List ℕ → Type 0
Rising low [] = Unit {0}
Rising low (x ∷ xs) = (low ≤ x) × Rising (x + 1) xs

least_first : (low : ℕ) (xs : List ℕ) (o : ℕ) → Rising low xs → Contains xs o → low ≤ o
least_first low [] o h c = absurd (none_in o c)
least_first low (x ∷ xs) o h c = ⊎_elim (λ e. omega (arith, e, h.0)) (λ r. omega (arith, h.0, least_first (x + 1) xs o h.1 r)) (front_or x o xs c)

rows_behind : (r : Run) (rs : List Run) → IsCanonical (r ∷ rs) → (o : ℕ) (row : Row) → row_at rs o ≡ Some row → (r.last < o) × (row_at (r ∷ rs) o ≡ Some row)
rows_behind r rs canonical o row at = elim (cases_lt r.last o) [
  | inl lt ↦ (lt, row_at-beyond r rs o lt ∙ at)
  | inr le ↦ absurd (let none : row_at rs o ≡ None = row_at-none r rs o canonical.1 canonical.2 le in let clash : ⊥ = cc in clash)
]

-- runs whose offsets are all among these are no more than these
pub few_runs : (xs : List ℕ) (low : ℕ) (runs : List Run) → Rising low xs → IsCanonical runs → ((o : ℕ) (row : Row) → row_at runs o ≡ Some row → Contains xs o) → length runs ≤ length xs
few_runs xs low [] rises canonical within = omega arith
few_runs [] low (r ∷ rs) rises canonical within = absurd (none_in r.first (within r.first (row_of r) (row_at-here r rs r.first (omega arith) canonical.0)))
few_runs (x ∷ xs) low (r ∷ rs) rises canonical within =
    let first : x ≤ r.first = least_first x (x ∷ xs) r.first (omega arith, rises.1) (within r.first (row_of r) (row_at-here r rs r.first (omega arith) canonical.0)) in
    let order : r.first ≤ r.last = canonical.0 in
    let rest = few_runs xs (x + 1) rs rises.1 canonical.2 (λ o row at.
    let b = rows_behind r rs canonical o row at in
    ⊎_elim (λ e. absurd (omega (arith, e, first, order, b.0))) (λ c. c) (front_or x o xs (within o row b.1))) in
    omega (arith, rest)

slots_rise : (n : ℕ) (log : List Batch) (from : ℕ) → IsLog log → Rising from (slots_from n log from)
unfolding slots_from
slots_rise zero log from h = tt
slots_rise (suc n) log from h = by_next (next_slot log from) (next_meets 0 log h from) (λ slot. slots_rise n log (slot + 1) h)
  where
    by_next : (r : Option ℕ) → IsNextSlot log from r → ((slot : ℕ) → Rising (slot + 1) (slots_from n log (slot + 1))) → Rising from (and_more r (λ slot. slots_from n log (slot + 1)))
    by_next None is ih = tt
    by_next (Some slot) is ih = (is.1, ih slot)

pub slot_from : (n : ℕ) (log : List Batch) (from o : ℕ) → IsLog log → Contains (slots_from n log from) o → from ≤ o
slot_from n log from o h c = least_first from (slots_from n log from) o (slots_rise n log from h) c

slots_few : (n : ℕ) (log : List Batch) (from : ℕ) → length (slots_from n log from) ≤ n
unfolding slots_from
slots_few zero log from = omega arith
slots_few (suc n) log from = by_next (next_slot log from) (λ slot. slots_few n log (slot + 1))
  where
    by_next : (r : Option ℕ) → ((slot : ℕ) → length (slots_from n log (slot + 1)) ≤ n) → length (and_more r (λ slot. slots_from n log (slot + 1))) ≤ suc n
    by_next None ih = omega arith
    by_next (Some slot) ih = omega (arith, ih slot)

pub few_within : (log : List Batch) (start : ℕ) (runs : List Run) → IsLog log → IsCanonical runs → ((o : ℕ) (row : Row) → row_at runs o ≡ Some row → Contains (slots_from 2000 log start) o)
    → length runs ≤ 2000
few_within log start runs is_log canonical within =
    let count = few_runs (slots_from 2000 log start) start runs (slots_rise 2000 log start is_log) canonical within in
    omega (arith, count, slots_few 2000 log start)

pub all_writable : (runs : List Run) → IsCanonical runs → ((o : ℕ) (row : Row) → row_at runs o ≡ Some row → (o < 2 ^ 62) × (row.count ≤ 10)) → list_all is_writable runs ≡ true
all_writable [] canonical small = refl
all_writable (r ∷ rs) canonical small =
    let order : r.first ≤ r.last = canonical.0 in
    let s = small r.last (row_of r) (row_at-here r rs r.last order (omega arith)) in
    let end : r.last < 2 ^ 62 = s.0 in
    let count : r.count ≤ 10 = s.1 in
    let one : is_writable r ≡ true = grind (arith, nat_tests) in
    λ i. one i && all_writable rs canonical.2 (λ o row at. small o row (rows_behind r rs canonical o row at).1) i

-- ---- how many records are held

drop_first : (x : ℕ) (xs : List ℕ) (low : ℕ) (held : Held) → x < low → HoldsRise low held → AllByRecursion (λ (e : ℕ × Hold). Contains (x ∷ xs) e.0) held
    → AllByRecursion (λ (e : ℕ × Hold). Contains xs e.0) held
drop_first x xs low [] lt rises within = tt
drop_first x xs low (e ∷ held) lt rises within = (
  ⊎_elim (λ same. absurd (omega (arith, same, lt, rises.0))) (λ c. c) (front_or x e.0 xs within.0),
  drop_first x xs (e.0 + 1) held (omega (arith, lt, rises.0)) rises.1 within.1,
)

-- offsets that rise and are all among these are no more than these
few_offsets : (xs : List ℕ) (from low : ℕ) (held : Held) → Rising from xs → HoldsRise low held → AllByRecursion (λ (e : ℕ × Hold). Contains xs e.0) held
    → length held ≤ length xs
few_offsets xs from low [] up rises within = omega arith
few_offsets [] from low (e ∷ held) up rises within = absurd (none_in e.0 within.0)
few_offsets (x ∷ xs) from low (e ∷ held) up rises within =
    let first : x ≤ e.0 = least_first x (x ∷ xs) e.0 (omega arith, up.1) within.0 in
    let rest = few_offsets xs (x + 1) (e.0 + 1) held up.1 rises.1 (drop_first x xs (e.0 + 1) held (omega (arith, first)) rises.1 within.1) in
    omega (arith, rest)

none_held : (held : Held) → held ≡ [] → length held ≤ 2000
none_held held none = let zero_is = ap (λ (h : Held). length h) none in omega (arith, zero_is)

-- a group holds at most 2000 records
pub few_held : (log : List Batch) (o : Option ShareState) (held : Held) → IsLog log → IsRising held → HoldsWell log o held → length held ≤ 2000
few_held log None held is_log rises none = none_held held none
few_held log (Some state) held is_log rises well =
    let count = few_offsets (slots_from 2000 log (size_of state.start)) (size_of state.start) 0 held (slots_rise 2000 log (size_of state.start) is_log) rises
    (found_each (λ o hold. Contains (slots_from 2000 log (size_of state.start)) o) 0 held rises (λ o hold at. (well o hold at).slot)) in
    omega (arith, count, slots_few 2000 log (size_of state.start))
