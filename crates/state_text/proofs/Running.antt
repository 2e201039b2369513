-- Runs that are written one by one.
use Rattle.std.proofs.Common.{◌≡◌, ℕ, List, [], ◌∷◌, ◌++◌, length, subst, sym, arith}
use Rattle.std.specs.declared.option.Option.{Option}
use Rattle.text_pieces.proofs.Going.{IsSoFar, said}
use Rattle.share_model.specs.declared.run.Run.{Run}
use Rattle.state_text.specs.Texts.{run_line, run_lines}

-- the line of one more run waits
pub run_said : (held now : Option (List ℕ)) (before text whole : List ℕ) (rest others : List Run) (run : Run) → IsSoFar held now before (run_lines rest) whole
    → rest ≡ run ∷ others → text ≡ before ++ run_line run → IsSoFar held now text (run_lines others) whole
run_said held now before text whole rest others run p e t =
    subst (λ (l : List ℕ). IsSoFar held now l (run_lines others) whole) (sym t)
    (said held now before (run_line run) (run_lines others) whole (subst (λ (l : List Run). IsSoFar held now before (run_lines l) whole) e p))

-- none is left
pub runs_end : (held now : Option (List ℕ)) (text whole : List ℕ) (rest : List Run) → IsSoFar held now text (run_lines rest) whole → length rest ≡ 0
    → IsSoFar held now text [] whole
runs_end held now text whole [] p e = p
runs_end held now text whole (run ∷ rest) p e = absurd (omega (arith, e))
