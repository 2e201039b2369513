-- What a delete leaves of the records from the log's start on.
use Rattle.std.proofs.Common.{◌≡◌, ◌⊎◌, ◌≤◌, ◌<◌, inl, inr, refl, sym, ap, ◌∙◌, subst, arith, ℕ, List, [], ◌∷◌, Bool, true, false, Option, Some, None}
use Rattle.std.proofs.lemmas.Bool.{cases_lt}
use Rattle.std.specs.Option.{option_map}
use Rattle.std.specs.Prelude.{nat_lt}
use Rattle.share_model.specs.ForeignRules.{ShareStates, size_of}
use Rattle.share_model.specs.Runs.{row_at}
use Rattle.share_model.specs.ShareStates.{ShareState}
use Rattle.share_model.specs.declared.run.Run.{Run}
use Rattle.share_model.proofs.Lookups.{row_at-here, row_at-below, row_at-beyond}
use Rattle.offset_runs.specs.Parts.{from_on, run_from}
use Rattle.offset_runs.proofs.Cuts.{lt_yes}
use Rattle.offset_runs.proofs.Joins.{choose}
use Rattle.share_coord.specs.Raising.{raised, raised_states, starts_below}
use Rattle.share_coord.proofs.Raising.{below_size, raised_below, raised_not}
use Rattle.share_part.specs.Settling.{is_closed}
use Rattle.broker_model.specs.Starts.{IsBelow, IsClosedRow}
use Rattle.broker_model.proofs.Lists.{none_not, some_same}

-- from the offset on a cut list has the rows of the whole
pub row_from : (xs : List Run) (f o : ℕ) → f ≤ o → row_at (from_on xs f) o ≡ row_at xs o
row_from [] f o le = refl
row_from (x ∷ xs) f o le =
    choose (λ (zs : List Run). row_at zs o ≡ row_at (x ∷ xs) o) (nat_lt x.last f) (from_on xs f) (run_from x f ∷ xs)
    (λ ends. let low = lt_yes x.last f ends in row_from xs f o le ∙ sym (row_at-beyond x xs o (omega (arith, low, le))))
    (λ goes. elim (cases_lt o x.first) [
      | inl early ↦ row_at-below (run_from x f) xs o (omega arith) ∙ sym (row_at-below x xs o early)
      | inr from ↦ elim (cases_lt x.last o) [
        | inl beyond ↦ row_at-beyond (run_from x f) xs o beyond ∙ sym (row_at-beyond x xs o beyond)
        | inr within ↦ row_at-here (run_from x f) xs o (omega arith) within ∙ sym (row_at-here x xs o from within)
      ]
    ])

module _ (n o : ℕ) (le : n ≤ o) where
  abbrev Passed : Option ShareState → Type 0
  Passed t = IsBelow o t ⊎ IsClosedRow o t

  closed_one : (s : ShareState) → IsClosedRow o (Some (raised n s)) → IsClosedRow o (Some s)
  closed_one s closed = by (starts_below s.start n) refl where
    by : (b : Bool) → starts_below s.start n ≡ b → is_closed (row_at s.runs o) ≡ true
    by true low = ap is_closed (sym (row_from s.runs n o le)) ∙ (sym (ap (λ (x : ShareState). is_closed (row_at x.runs o)) (raised_below s n low)) ∙ closed)
    by false high = sym (ap (λ (x : ShareState). is_closed (row_at x.runs o)) (raised_not s n high)) ∙ closed

  below_one : (s : ShareState) → IsBelow o (Some (raised n s)) → IsBelow o (Some s)
  below_one s below = by (starts_below s.start n) refl where
    by : (b : Bool) → starts_below s.start n ≡ b → o < size_of s.start
    by true low =
        let past : o < n = subst (λ (x : ShareState). o < size_of x.start) (raised_below s n low) below in
        let clash : ⊥ = omega (arith, past, le) in absurd clash
    by false high = subst (λ (x : ShareState). o < size_of x.start) (raised_not s n high) below

  -- what a raised table has passed, it had passed
  pub passed_raised : (t : Option ShareState) → Passed (option_map (raised n) t) → Passed t
  passed_raised None (inl below) = absurd below
  passed_raised None (inr closed) = absurd closed
  passed_raised (Some s) (inl below) = inl (below_one s below)
  passed_raised (Some s) (inr closed) = inr (closed_one s closed)

  -- and what it had passed it has
  pub below_raised : (t : Option ShareState) → IsBelow o t → IsBelow o (option_map (raised n) t)
  below_raised None below = below
  below_raised (Some s) below = by (starts_below s.start n) refl where
    by : (b : Bool) → starts_below s.start n ≡ b → o < size_of (raised n s).start
    by true low = let up = below_size s.start n low in let clash : ⊥ = omega (arith, up, below, le) in absurd clash
    by false high = subst (λ (x : ShareState). o < size_of x.start) (sym (raised_not s n high)) below

-- the pending write is one of raised states
pub pending_one : (n : ℕ) (pending : Option ShareStates) (found : ShareStates) → option_map (raised_states n) pending ≡ Some found
    → (w : ShareStates) × (pending ≡ Some w) × (raised_states n w ≡ found)
pending_one n None found e = absurd (none_not found e)
pending_one n (Some w) found e = (w, refl, some_same (raised_states n w) found e)

pub none_raised : (n : ℕ) (t : Option ShareState) → t ≡ None → option_map (raised n) t ≡ None
none_raised n t none = ap (option_map (raised n)) none
