-- What a look-up in runs gives.
use Rattle.std.proofs.Common.{◌≡◌, ℕ, ◌<◌, ◌≤◌, List, [], ◌∷◌, Some, None, refl, ◌∙◌, arith}
use Rattle.std.proofs.lemmas.Bool.Decides.{nat_tests}
use Rattle.share_model.specs.Runs.{row_of, row_at, Follows, IsCanonical}
use Rattle.share_model.specs.declared.run.Run.{Run}

-- within the first run
pub row_at-here : (run : Run) (runs : List Run) (o : ℕ) → run.first ≤ o → o ≤ run.last → row_at (run ∷ runs) o ≡ Some (row_of run)
row_at-here run runs o from to = grind (arith, nat_tests)

-- below the first run
pub row_at-below : (run : Run) (runs : List Run) (o : ℕ) → o < run.first → row_at (run ∷ runs) o ≡ row_at runs o
row_at-below run runs o below = grind (arith, nat_tests)

-- beyond the first run
pub row_at-beyond : (run : Run) (runs : List Run) (o : ℕ) → run.last < o → row_at (run ∷ runs) o ≡ row_at runs o
row_at-beyond run runs o beyond = grind (arith, nat_tests)

-- runs that follow a run have no row up to its end
pub row_at-none : (run : Run) (runs : List Run) (o : ℕ) → Follows run runs → IsCanonical runs → o ≤ run.last → row_at runs o ≡ None
row_at-none run [] o follows canonical upto = refl
row_at-none run (next ∷ runs) o follows canonical upto =
    let below : o < next.first = omega (arith, follows.0) in
    row_at-below next runs o below ∙ row_at-none next runs o canonical.1 canonical.2 (omega (arith, canonical.0))

-- a list with this head begins at it
pub row_at-first : (run : Run) (runs : List Run) (o : ℕ) → IsCanonical (run ∷ runs) → o < run.first → row_at (run ∷ runs) o ≡ None
row_at-first run runs o canonical below = row_at-below run runs o below ∙ row_at-none run runs o canonical.1 canonical.2 (omega (arith, canonical.0))
