-- Contents of a store whose raised keys start at one offset, as those of a partition start where its log does: raised to it, they are what is
-- kept.
use Rattle.std.proofs.Common.{◌≡◌, ◌≤◌, refl, sym, ap, ◌∙◌, subst, arith, ℕ, ℤ, pos, List, [], ◌∷◌, Option, Some, None, Bool, true, false, ◌||◌}
use Rattle.std.specs.Option.{IfSome, option_map}
use Rattle.offset_runs.proofs.Cuts.{lt_no}
use Rattle.share_model.specs.ForeignRules.{ShareStates, size_of}
use Rattle.share_model.specs.Keys.{KeyParts}
use Rattle.share_model.specs.ShareStates.{ShareState}
use Rattle.share_coord.specs.Parts.{KeptState}
use Rattle.share_coord.specs.Raising.{raised, raised_states, starts_below}
use Rattle.share_coord.specs.States.{AreStates, states_of}
use Rattle.share_coord.specs.Stored.{Entries, based, renewed, with_kept}
use Rattle.share_coord.specs.Unwritten.{AreAlike, AreLevel, AreStatesOf, AreUnraised, IsLevel, IsViewOf, raised_all, raised_kept}
use Rattle.share_coord.proofs.Keys.{all_with, clash}
use Rattle.share_coord.proofs.Raising.{raised_below, raised_fixed, raised_not, raised_twice}
use Rattle.share_coord.proofs.Unwritten.{raised_view, unraised_view}

-- ---- what is found

one_found : (to : ℕ) (w k : KeptState) (b : Bool) → k.raised ≡ b → IsViewOf w k → IsLevel to k → raised to w.view ≡ k.view
one_found to w k true since h at =
    ap (λ (n : ℕ). raised n w.view) (sym (ap size_of (at.1 since))) ∙ sym (raised_view w k h since)
one_found to w k false never h at =
    let same = unraised_view w k h never in
    ap (raised to) (sym same) ∙ raised_not k.view to at.0

found : (to : ℕ) (ws es : Entries) → AreAlike IsViewOf ws es → AreLevel to es → raised_states to (states_of ws) ≡ states_of es
found to [] [] h at = refl
found to [] (e ∷ es) h at = absurd h
found to (w ∷ ws) [] h at = absurd h
found to (w ∷ ws) (e ∷ es) h at =
    let rest = found to ws es h.2 at.1 in
    let one = one_found to w.1 e.1 e.1.raised refl h.1 at.0 in
    λ i. (h.0 i, one i) ∷ rest i

pub recovers : (a b : List ℕ) (to : ℕ) (es : Entries) → AreStatesOf a b es → AreLevel to es
    → (written : ShareStates) × AreStates a b written × (states_of es ≡ raised_states to written)
recovers a b to es h at = (
  states_of h.written,
  record { entries = h.written; stored = h.stored; is = refl },
  sym (found to h.written es h.are at),
)

-- ---- what keeps them there

level : (from to : ℕ) (k : KeptState) → from ≤ to → k.view.start ≡ pos from → starts_below k.view.start to ≡ false → k.view.start ≡ pos to
level from to k le is above =
    let ge = lt_no from to (subst (λ (z : ℤ). starts_below z to ≡ false) is above) in
    let same : from ≡ to = omega (arith, ge, le) in
    is ∙ ap (λ (n : ℕ). pos n) same

-- a start that rises, from where they were
pub one_raised : (from to : ℕ) (k : KeptState) → from ≤ to → IsLevel from k → IsLevel to (raised_kept (pos to) k)
one_raised from to k le at = by (starts_below k.view.start to) refl where
  by : (b : Bool) → starts_below k.view.start to ≡ b
      → (starts_below (raised to k.view).start to ≡ false) × ((b || k.raised) ≡ true → (raised to k.view).start ≡ pos to)
  by true low = (raised_fixed to k.view, λ _. ap (λ (v : ShareState). v.start) (raised_below k.view to low))
  by false high =
      let same = raised_not k.view to high in
      (raised_fixed to k.view, λ since. subst (λ (v : ShareState). v.start ≡ pos to) (sym same) (level from to k le (at.1 since) high))

pub level_all : (from to : ℕ) (es : Entries) → from ≤ to → AreLevel from es → AreLevel to (raised_all (pos to) es)
level_all from to [] le h = tt
level_all from to (e ∷ es) le h = (one_raised from to e.1 le h.0, level_all from to es le h.1)

pub level_pending : (from to : ℕ) (pending : Option Entries) → from ≤ to → IfSome pending (AreLevel from)
    → IfSome (option_map (raised_all (pos to)) pending) (AreLevel to)
level_pending from to None le h = tt
level_pending from to (Some es) le h = level_all from to es le h

-- a start that rises for the first time
first_raised : (to : ℕ) (k : KeptState) → k.raised ≡ false → IsLevel to (raised_kept (pos to) k)
first_raised to k never = by (starts_below k.view.start to) refl where
  by : (b : Bool) → starts_below k.view.start to ≡ b
      → (starts_below (raised to k.view).start to ≡ false) × ((b || k.raised) ≡ true → (raised to k.view).start ≡ pos to)
  by true low = (raised_fixed to k.view, λ _. ap (λ (v : ShareState). v.start) (raised_below k.view to low))
  by false high = (raised_fixed to k.view, λ since. absurd (clash (sym since ∙ never)))

pub level_first : (to : ℕ) (es : Entries) → AreUnraised es → AreLevel to (raised_all (pos to) es)
level_first to [] h = tt
level_first to (e ∷ es) h = (first_raised to e.1 h.0, level_first to es h.1)

-- a checkpoint
level_renewed : (to : ℕ) (es : Entries) → AreLevel to es → AreLevel to (renewed es)
level_renewed to [] h = tt
level_renewed to (e ∷ es) h = ((h.0.0, λ since. absurd (clash (sym since))), level_renewed to es h.1)

pub level_based : (to : ℕ) (c : Bool) (es : Entries) → AreLevel to es → AreLevel to (based c es)
level_based to true es h = level_renewed to es h
level_based to false es h = h

-- what a write leaves of its key, with or without a checkpoint before it
pub level_written : (to : ℕ) (c : Bool) (old new : Entries) (key : KeyParts) (kept : KeptState) → new ≡ with_kept (based c old) key kept → kept.raised ≡ false
    → starts_below kept.view.start to ≡ false → AreLevel to old → AreLevel to new
level_written to c old new key kept is never high h =
    subst (AreLevel to) (sym is) (all_with (IsLevel to) (based c old) key kept (level_based to c old h) (high, λ since. absurd (clash (sym since ∙ never))))

-- ---- the states of all keys that were raised

pub states_all : (to : ℕ) (es : Entries) → states_of (raised_all (pos to) es) ≡ raised_states to (states_of es)
states_all to [] = refl
states_all to (e ∷ es) = ap (λ (l : ShareStates). (e.0, raised to e.1.view) ∷ l) (states_all to es)

-- raised twice, the later one wins
pub states_twice : (to more : ℕ) (states : ShareStates) → to ≤ more → raised_states more (raised_states to states) ≡ raised_states more states
states_twice to more [] le = refl
states_twice to more (e ∷ es) le =
    let one = raised_twice e.1 to more le in
    let rest = states_twice to more es le in
    λ i. (e.0, one i) ∷ rest i

pub pending_all : (to : ℕ) (pending : Option Entries) → option_map states_of (option_map (raised_all (pos to)) pending) ≡ option_map (raised_states to) (option_map states_of pending)
pending_all to None = refl
pending_all to (Some es) = ap (λ (s : ShareStates). Some s) (states_all to es)
