-- What passes asked, and what they were answered, as lists. These words are this project's own.
-- For example the questions (0, 7) and (2, 9) and the answers 4 and 5 are the entries of pass 0, with 7 and 4, and of pass 2, with 9 and 5.
use Rattle.std.specs.Prelude.{ℕ, ◌<◌, List, [], ◌∷◌, map}
use Rattle.std.specs.List.{AllByRecursion}
use Rattle.shard_lock.specs.declared.shard.Entry.{Entry}
use Rattle.shard_lock.specs.History.{entry}

module _ {E A : Type 0} where
  -- the number of the pass and the event of each
  abbrev pub asked_of : List (Entry E A) → List (ℕ × E)
  asked_of es = map (λ e. (e.seat, e.event)) es

  abbrev pub answers_of : List (Entry E A) → List A
  answers_of es = map (λ e. e.answer) es

  -- each question with its answer
  abbrev pub entries : List (ℕ × E) → List A → List (Entry E A)
  entries [] answers = []
  entries (x ∷ asks) [] = []
  entries (x ∷ asks) (a ∷ answers) = entry x.0 x.1 a ∷ entries asks answers

-- the questions of passes with numbers below n
abbrev pub AreBelow : {E : Type 0} → ℕ → List (ℕ × E) → Type 0
AreBelow n asks = AllByRecursion (λ x. x.0 < n) asks
