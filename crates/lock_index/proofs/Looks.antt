-- What runs hold, by offset.
use Rattle.std.proofs.Common.{◌≡◌, ℕ, zero, suc, ◌+◌, ◌-◌, ◌<◌, ◌≤◌, List, [], ◌∷◌, ◌++◌, Some, None, refl, ap, ◌∙◌, subst, arith, inl, inr}
use Rattle.std.proofs.lemmas.Bool.{cases_lt}
use Rattle.share_model.specs.Held.{Held, hold_at}
use Rattle.share_model.specs.declared.hold.Hold.{Hold}
use Rattle.lock_index.specs.declared.run.HoldRun.{HoldRun}
use Rattle.lock_index.specs.Runs.{Follows, IsCanonical, held_from, held_of}
use Rattle.lock_index.specs.Windows.{RisesFrom}
use Rattle.lock_index.proofs.Finding.{here, below, above}
use Rattle.lock_index.proofs.Edits.{rises_lower}

pub within_from : (n first o : ℕ) (hold : Hold) (rest : Held) → first ≤ o → o < first + n → hold_at (held_from first n hold ++ rest) o ≡ Some hold
within_from zero first o hold rest from to = absurd (omega arith)
within_from (suc n) first o hold rest from to =
    elim (cases_lt first o) [
      | inl over ↦ above (first, hold) (held_from (first + 1) n hold ++ rest) o over ∙ within_from n (first + 1) o hold rest (omega arith) (omega arith)
      | inr upto ↦
          let same : o ≡ first = omega arith in
          ap (hold_at ((first, hold) ∷ (held_from (first + 1) n hold ++ rest))) same ∙ here (first, hold) (held_from (first + 1) n hold ++ rest)
    ]

pub below_from : (n first o : ℕ) (hold : Hold) (rest : Held) → o < first → hold_at (held_from first n hold ++ rest) o ≡ hold_at rest o
below_from zero first o hold rest under = refl
below_from (suc n) first o hold rest under =
    below (first, hold) (held_from (first + 1) n hold ++ rest) o under ∙ below_from n (first + 1) o hold rest (omega arith)

pub beyond_from : (n first o : ℕ) (hold : Hold) (rest : Held) → first + n ≤ o → hold_at (held_from first n hold ++ rest) o ≡ hold_at rest o
beyond_from zero first o hold rest over = refl
beyond_from (suc n) first o hold rest over =
    above (first, hold) (held_from (first + 1) n hold ++ rest) o (omega arith) ∙ beyond_from n (first + 1) o hold rest (omega arith)

-- within the first run, below it and beyond it
pub look_here : (run : HoldRun) (runs : List HoldRun) (o : ℕ) → run.first ≤ o → o ≤ run.last → hold_at (held_of (run ∷ runs)) o ≡ Some run.hold
look_here run runs o from to = within_from ((run.last + 1) - run.first) run.first o run.hold (held_of runs) from (omega arith)

pub look_below : (run : HoldRun) (runs : List HoldRun) (o : ℕ) → o < run.first → hold_at (held_of (run ∷ runs)) o ≡ hold_at (held_of runs) o
look_below run runs o under = below_from ((run.last + 1) - run.first) run.first o run.hold (held_of runs) under

pub look_beyond : (run : HoldRun) (runs : List HoldRun) (o : ℕ) → run.first ≤ run.last → run.last < o → hold_at (held_of (run ∷ runs)) o ≡ hold_at (held_of runs) o
look_beyond run runs o order over = beyond_from ((run.last + 1) - run.first) run.first o run.hold (held_of runs) (omega arith)

-- runs that follow a run hold nothing up to its end
pub look_none : (run : HoldRun) (runs : List HoldRun) (o : ℕ) → Follows run runs → IsCanonical runs → o ≤ run.last → hold_at (held_of runs) o ≡ None
look_none run [] o follows canonical upto = refl
look_none run (next ∷ runs) o follows canonical upto =
    look_below next runs o (omega (arith, follows.0, upto)) ∙ look_none next runs o canonical.1 canonical.2 (omega (arith, canonical.0, follows.0, upto))

-- a list with this head begins at it
pub look_first : (run : HoldRun) (runs : List HoldRun) (o : ℕ) → IsCanonical (run ∷ runs) → o < run.first → hold_at (held_of (run ∷ runs)) o ≡ None
look_first run runs o canonical under = look_below run runs o under ∙ look_none run runs o canonical.1 canonical.2 (omega (arith, canonical.0))

-- ---- order

rises_from : (n first : ℕ) (hold : Hold) (rest : Held) → RisesFrom (first + n) rest → RisesFrom first (held_from first n hold ++ rest)
rises_from zero first hold rest rises = subst (λ (k : ℕ). RisesFrom k rest) (omega arith) rises
rises_from (suc n) first hold rest rises = (omega arith, rises_from n (first + 1) hold rest (subst (λ (k : ℕ). RisesFrom k rest) (omega arith) rises))

pub runs_rise : (low : ℕ) (run : HoldRun) (runs : List HoldRun) → IsCanonical (run ∷ runs) → low ≤ run.first → RisesFrom low (held_of (run ∷ runs))
runs_rise low run [] canonical le =
    rises_lower run.first low _ le (rises_from ((run.last + 1) - run.first) run.first run.hold [] tt)
runs_rise low run (next ∷ runs) canonical le =
    rises_lower run.first low _ le (rises_from ((run.last + 1) - run.first) run.first run.hold (held_of (next ∷ runs))
    (runs_rise (run.first + ((run.last + 1) - run.first)) next runs canonical.2 (omega (arith, canonical.0, canonical.1.0))))

pub held_rises : (runs : List HoldRun) → IsCanonical runs → RisesFrom 0 (held_of runs)
held_rises [] canonical = tt
held_rises (run ∷ runs) canonical = runs_rise 0 run runs canonical (omega arith)
