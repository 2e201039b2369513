-- What raised states are.
use Rattle.std.proofs.Common.{◌≡◌, ◌≤◌, ◌<◌, ℕ, ℤ, pos, negsuc, max, Bool, true, false, List, [], ◌∷◌, Option, Some, None, refl, sym, ap, ◌∙◌, arith, inl, inr}
use Rattle.std.proofs.lemmas.Bool.{cases_lt}
use Rattle.std.specs.Prelude.{int_lt, nat_lt, cond}
use Rattle.std.specs.BTreeMap.{is_at}
use Rattle.std.specs.Option.{option_map, option_or}
use Rattle.offset_runs.specs.Parts.{from_on, run_from}
use Rattle.offset_runs.proofs.Cuts.{from_on-canonical, from_on-row_at, lt_no, lt_yes, no_lt, yes_lt}
use Rattle.offset_runs.specs.Changes.{CutsBelow}
use Rattle.share_model.proofs.OneList.{one_list}
use Rattle.share_model.specs.Runs.{IsCanonical, row_at}
use Rattle.share_model.specs.declared.row.Row.{Row}
use Rattle.share_model.specs.ForeignRules.{ShareStates, share_state_at, size_of}
use Rattle.share_model.specs.Keys.{KeyParts, key_cmp}
use Rattle.share_model.specs.ShareStates.{AreLaid, ShareState, is_below}
use Rattle.share_model.specs.declared.run.Run.{Run}
use Rattle.state_records.specs.States.{IsStart}
use Rattle.share_coord.specs.Raising.{raised, raised_states, raised_to, rises, starts_below}

from_twice_run : (x : Run) (to more : ℕ) → to ≤ more → run_from (run_from x to) more ≡ run_from x more
from_twice_run x to more le =
    let same : max (max x.first to) more ≡ max x.first more = omega (arith, le) in
    ap (λ (n : ℕ). record { first = n; last = x.last; state = x.state; count = x.count }) same

pub from_twice : (runs : List Run) (to more : ℕ) → to ≤ more → from_on (from_on runs to) more ≡ from_on runs more
from_twice [] to more le = refl
from_twice (x ∷ xs) to more le = elim (cases_lt x.last to) [
  | inl low ↦ ap (λ (b : Bool). from_on (cond b (from_on xs to) (run_from x to ∷ xs)) more) (yes_lt x.last to low)
      ∙ from_twice xs to more le
      ∙ sym (ap (λ (b : Bool). cond b (from_on xs more) (run_from x more ∷ xs)) (yes_lt x.last more (omega (arith, low, le))))
  | inr high ↦ ap (λ (b : Bool). from_on (cond b (from_on xs to) (run_from x to ∷ xs)) more) (no_lt x.last to high)
      ∙ ap (λ (r : Run). cond (nat_lt x.last more) (from_on xs more) (r ∷ xs)) (from_twice_run x to more le)
]

below_more : (start : ℤ) (to more : ℕ) → to ≤ more → starts_below start to ≡ true → starts_below start more ≡ true
below_more (pos n) to more le low = let lt = lt_yes n to low in yes_lt n more (omega (arith, lt, le))
below_more (negsuc n) to more le low = refl

abbrev pub with_start : ShareState → ℕ → List Run → ShareState
with_start s to runs = record { state_epoch = s.state_epoch; leader_epoch = s.leader_epoch; start = pos to; runs = runs }

pub raised_below : (s : ShareState) (to : ℕ) → starts_below s.start to ≡ true → raised to s ≡ with_start s to (from_on s.runs to)
raised_below s to low = ap (λ (b : Bool). cond b (with_start s to (from_on s.runs to)) s) low

pub raised_not : (s : ShareState) (to : ℕ) → starts_below s.start to ≡ false → raised to s ≡ s
raised_not s to high = ap (λ (b : Bool). cond b (with_start s to (from_on s.runs to)) s) high

-- raised twice, the greater wins
pub raised_twice : (s : ShareState) (to more : ℕ) → to ≤ more → raised more (raised to s) ≡ raised more s
raised_twice s to more le = by (starts_below s.start to) refl where
  at_last : starts_below s.start to ≡ true → raised more (with_start s to (from_on s.runs to)) ≡ raised more s
  at_last low =
      let whole : raised more s ≡ with_start s more (from_on s.runs more) = raised_below s more (below_more s.start to more le low) in
      elim (cases_lt to more) [
        | inl lt ↦ raised_below (with_start s to (from_on s.runs to)) more (yes_lt to more lt)
            ∙ ap (with_start s more) (from_twice s.runs to more le) ∙ sym whole
        | inr ge ↦
            let same : to ≡ more = omega (arith, ge, le) in
            raised_not (with_start s to (from_on s.runs to)) more (no_lt to more ge)
            ∙ ap (λ (n : ℕ). with_start s n (from_on s.runs n)) same ∙ sym whole
      ]

  by : (b : Bool) → starts_below s.start to ≡ b → raised more (raised to s) ≡ raised more s
  by true low = ap (raised more) (raised_below s to low) ∙ at_last low
  by false high = ap (raised more) (raised_not s to high)

-- a state among raised ones
pub raised_at : (to : ℕ) (states : ShareStates) (key : KeyParts) → share_state_at (raised_states to states) key ≡ option_map (raised to) (share_state_at states key)
raised_at to [] key = refl
raised_at to (e ∷ states) key = by (is_at (key_cmp key) e.0) (raised_at to states key) where
  by : (b : Bool) → share_state_at (raised_states to states) key ≡ option_map (raised to) (share_state_at states key)
      → cond b (Some (raised to e.1)) (share_state_at (raised_states to states) key) ≡ option_map (raised to) (cond b (Some e.1) (share_state_at states key))
  by true others = refl
  by false others = others

-- ---- rows

-- what a cut leaves
pub cut_is : (old new : List Run) (to : ℕ) → IsCanonical old → IsCanonical new → CutsBelow old new to → new ≡ from_on old to
cut_is old new to was now cuts = one_list new (from_on old to) now (from_on-canonical old to was) (λ o. cuts o ∙ sym (from_on-row_at old to o was))

below_start : (o s : ℕ) (a b : Option Row) → (nat_lt o s ≡ false → a ≡ b) → cond (nat_lt o s) None a ≡ cond (nat_lt o s) None b
below_start o s a b same = by (nat_lt o s) refl where
  by : (k : Bool) → nat_lt o s ≡ k → cond k None a ≡ cond k None b
  by true e = refl
  by false e = same e

-- rows laid over those that were cut below the start are those laid over all
pub laid_raised : (to s : ℕ) (under over laid : List Run) → to ≤ s → IsCanonical under → AreLaid (pos s) under over laid → AreLaid (pos s) (from_on under to) over laid
laid_raised to s under over laid le canonical h = record {
  canonical = h.canonical;
  rows = λ o. h.rows o ∙ below_start o s (option_or (row_at over o) (row_at under o)) (option_or (row_at over o) (row_at (from_on under to) o))
      (λ high. ap (λ (r : Option Row). option_or (row_at over o) r)
      (sym (from_on-row_at under to o canonical ∙ ap (λ (b : Bool). cond b None (row_at under o)) (no_lt o to (omega (arith, lt_no o s high, le))))));
}

-- and the other way round
pub laid_over_all : (to s : ℕ) (under over laid : List Run) → to ≤ s → IsCanonical under → AreLaid (pos s) (from_on under to) over laid → AreLaid (pos s) under over laid
laid_over_all to s under over laid le canonical h = record {
  canonical = h.canonical;
  rows = λ o. h.rows o ∙ below_start o s (option_or (row_at over o) (row_at (from_on under to) o)) (option_or (row_at over o) (row_at under o))
      (λ high. ap (λ (r : Option Row). option_or (row_at over o) r)
      (from_on-row_at under to o canonical ∙ ap (λ (b : Bool). cond b None (row_at under o)) (no_lt o to (omega (arith, lt_no o s high, le)))));
}

-- ---- a start that is given

-- a state that is raised starts at an offset
offset_by : (z : ℤ) (n : ℕ) → starts_below z n ≡ false → (m : ℕ) × (z ≡ pos m)
offset_by (pos m) n e = (m, refl)
offset_by (negsuc m) n e = let never : ⊥ = cc in absurd never

pub raised_start : (s : ShareState) (n : ℕ) → (m : ℕ) × ((raised n s).start ≡ pos m)
raised_start s n = by (starts_below s.start n) refl where
  by : (b : Bool) → starts_below s.start n ≡ b → (m : ℕ) × ((raised n s).start ≡ pos m)
  by true low = (n, ap (λ (v : ShareState). v.start) (raised_below s n low))
  by false high = let m = offset_by s.start n high in (m.0, ap (λ (v : ShareState). v.start) (raised_not s n high) ∙ m.1)

-- and not below where it was raised to
pub raised_fixed : (to : ℕ) (s : ShareState) → starts_below (raised to s).start to ≡ false
raised_fixed to s = by (starts_below s.start to) refl where
  by : (b : Bool) → starts_below s.start to ≡ b → starts_below (raised to s).start to ≡ false
  by true low = ap (λ (v : ShareState). starts_below v.start to) (raised_below s to low) ∙ no_lt to to (omega arith)
  by false high = ap (λ (v : ShareState). starts_below v.start to) (raised_not s to high) ∙ high

-- the start of a state that starts below is no greater
pub below_size : (z : ℤ) (to : ℕ) → starts_below z to ≡ true → size_of z ≤ to
below_size (pos n) to low = let lt = lt_yes n to low in omega (arith, lt)
below_size (negsuc n) to low = omega arith

-- the test that the code makes, by cases
pub int_lt_pos : (m n : ℕ) → int_lt (pos m) (pos n) ≡ nat_lt m n
int_lt_pos m n = refl

pub int_lt_neg : (m n : ℕ) → int_lt (negsuc m) (pos n) ≡ true
int_lt_neg m n = refl

int_lt_low : (m n : ℕ) → int_lt (pos m) (negsuc n) ≡ false
int_lt_low m n = refl

int_lt_both : (m n : ℕ) → int_lt (negsuc m) (negsuc n) ≡ nat_lt n m
int_lt_both m n = refl

lower_by : (z : ℤ) (to : ℕ) → int_lt z (pos to) ≡ true → starts_below z to ≡ true
lower_by (pos n) to e = sym (int_lt_pos n to) ∙ e
lower_by (negsuc n) to e = refl

higher_by : (z : ℤ) (to : ℕ) → int_lt z (pos to) ≡ false → starts_below z to ≡ false
higher_by (pos n) to e = sym (int_lt_pos n to) ∙ e
higher_by (negsuc n) to e = sym (int_lt_neg n to) ∙ e

-- no start that a key may have lies below one that is negative
pub no_lower : (z : ℤ) (n : ℕ) → IsStart z → int_lt z (negsuc n) ≡ true → ⊥
no_lower (pos m) n fit e = let never : false ≡ true = sym (int_lt_low m n) ∙ e in let clash : ⊥ = cc in clash
no_lower (negsuc m) n fit e =
    let lt : n < m = lt_yes n m (sym (int_lt_both m n) ∙ e) in
    let none : m ≡ 0 = fit in
    omega (arith, lt, none)

pub rises_below : (s : ShareState) (start : ℤ) → IsStart s.start → int_lt s.start start ≡ true → rises start s ≡ true
rises_below s (pos to) fit e = lower_by s.start to e
rises_below s (negsuc n) fit e = absurd (no_lower s.start n fit e)

pub rises_not : (s : ShareState) (start : ℤ) → int_lt s.start start ≡ false → rises start s ≡ false
rises_not s (pos to) e = higher_by s.start to e
rises_not s (negsuc n) e = refl

pub raised_same : (s : ShareState) (start : ℤ) → int_lt s.start start ≡ false → s ≡ raised_to start s
raised_same s (pos to) e = sym (raised_not s to (higher_by s.start to e))
raised_same s (negsuc n) e = refl

-- a state whose rows were cut, and that starts there
abbrev pub started : ShareState → ℤ → List Run → ShareState
started s start runs = record { state_epoch = s.state_epoch; leader_epoch = s.leader_epoch; start = start; runs = runs }

pub raised_cut : (s : ShareState) (start : ℤ) (cut : List Run) → IsStart s.start → int_lt s.start start ≡ true → IsCanonical s.runs → IsCanonical cut
    → ((o : ℕ) → row_at cut o ≡ cond (is_below o start) None (row_at s.runs o))
    → started s start cut ≡ raised_to start s
raised_cut s (pos to) cut fit e was now rows =
    ap (started s (pos to)) (cut_is s.runs cut to was now rows)
    ∙ sym (raised_below s to (lower_by s.start to e))
raised_cut s (negsuc n) cut fit e was now rows = absurd (no_lower s.start n fit e)
