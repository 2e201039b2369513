-- Batches as runs, one after another.
use Rattle.std.proofs.Common.{◌≡◌, refl, ap, List, [], ◌∷◌, ◌++◌, Option, Some, None}
use Rattle.share_model.specs.ForeignRules.{joined_runs}
use Rattle.share_model.specs.declared.run.Run.{Run}

-- these runs before those, if there are those
abbrev pub with_front : List Run → Option (List Run) → Option (List Run)
with_front front None = None
with_front front (Some runs) = Some (front ++ runs)

push : (xs : List Run) (x : Run) (ys : List Run) → (xs ++ x ∷ []) ++ ys ≡ xs ++ (x ∷ ys)
push [] x ys = refl
push (z ∷ xs) x ys = ap (λ (l : List Run). z ∷ l) (push xs x ys)

pub one_more : (front : List Run) (run : Run) (rest : Option (List Run)) → with_front (front ++ run ∷ []) rest ≡ with_front front (joined_runs (Some run) rest)
one_more front run None = refl
one_more front run (Some runs) = ap (λ (l : List Run). Some l) (push front run runs)

nothing : (xs : List Run) → xs ++ [] ≡ xs
nothing [] = refl
nothing (x ∷ xs) = ap (λ (l : List Run). x ∷ l) (nothing xs)

pub at_end : (front : List Run) → with_front front (Some []) ≡ Some front
at_end front = ap (λ (l : List Run). Some l) (nothing front)
