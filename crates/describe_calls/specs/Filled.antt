-- What the answers make of a plan (this project's own): each question takes the next answer, and known rows stand between them.
-- For example of a question, a known row and a question the answers 7 and 9 make the row of 7, the known one and the row of 9
-- (layer_rows, `known codes stand between the answers of a ListOffsets`).
use Rattle.std.specs.Prelude.{List, [], ◌∷◌}
use Rattle.call_fold.specs.declared.call.Entry.{Entry}
use Rattle.call_fold.specs.declared.call.Entry.TheVariants.{Known, Ask}

-- questions Q, rows R and answers A
abbrev pub filled : {Q R A : Type 0} → (Q → A → R) → List (Entry Q R) → List A → List R
filled row [] answers = []
filled row (Known one ∷ entries) answers = one ∷ filled row entries answers
filled row (Ask question ∷ entries) [] = []
filled row (Ask question ∷ entries) (answer ∷ answers) = row question answer ∷ filled row entries answers

abbrev pub questions_of : {Q R : Type 0} → List (Entry Q R) → List Q
questions_of [] = []
questions_of (Known one ∷ entries) = questions_of entries
questions_of (Ask question ∷ entries) = question ∷ questions_of entries
