-- How a request in hand goes on (this project's own): past the entries whose rows are known to the next question, and in the end to
-- the body of its reply.
-- For example the entries row, question, row, question go on to the first question; with its answer they go on to the second one, and with
-- the answer to that to the body of four rows.
use Rattle.std.specs.Prelude.{List, [], ◌∷◌, ◌++◌}
use Rattle.call_fold.specs.declared.part.PartAnswer.{PartAnswer}
use Rattle.call_fold.specs.declared.call.Entry.{Entry}
use Rattle.call_fold.specs.declared.call.Entry.TheVariants.{Known, Ask}
use Rattle.call_fold.specs.declared.call.Stage.{Stage}
use Rattle.call_fold.specs.declared.call.Stage.TheVariants.{Asks, Says}
use Rattle.call_fold.specs.Calls.{Acts, AskingParts}

abbrev pub stage_of : {C Q R : Type 0} → Acts C Q R → C → List (Entry Q R) → List R → Stage (AskingParts C Q R)
stage_of acts call [] rows = Says (acts.body call rows)
stage_of acts call (Known row ∷ left) rows = stage_of acts call left (rows ++ row ∷ [])
stage_of acts call (Ask question ∷ left) rows = Asks (record { call = call; question = question; left = left; rows = rows })

-- the question that is asked has this answer
abbrev pub stage_after : {C Q R : Type 0} → Acts C Q R → AskingParts C Q R → PartAnswer → Stage (AskingParts C Q R)
stage_after acts a answer = stage_of acts (acts.next a.call a.question answer) a.left (a.rows ++ acts.row a.call a.question answer ∷ [])

abbrev pub known_rows : {Q R : Type 0} → List (Entry Q R) → List R
known_rows [] = []
known_rows (Known row ∷ entries) = row ∷ known_rows entries
known_rows (Ask question ∷ entries) = known_rows entries
