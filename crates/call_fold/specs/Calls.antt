-- What a call is for a request in hand: which part a question is, which row an answer makes, what the call keeps then, and what
-- a reply with these rows is (this project's own).
-- For example a Read keeps its group and the form of its request, and its part is a Read of one key (state_calls).
use Rattle.std.specs.Prelude.{ℕ, List, Option}
use Rattle.call_fold.specs.declared.part.Part.{Part}
use Rattle.call_fold.specs.declared.part.PartAnswer.{PartAnswer}
use Rattle.call_fold.specs.declared.call.Entry.{Entry}

-- what is kept from entry to entry C, questions Q and rows R
pub record Acts (C Q R : Type 0) : Type 0 where
  pub part : C → Q → Part
  pub row : C → Q → PartAnswer → R
  pub next : C → Q → PartAnswer → C
  pub body : C → List R → Option (List ℕ)

-- a request in hand: the question that is asked, the entries behind it, and the rows of those before it
pub record AskingParts (C Q R : Type 0) : Type 0 where
  pub call : C
  pub question : Q
  pub left : List (Entry Q R)
  pub rows : List R

-- the part that is asked
abbrev pub question_part : {C Q R : Type 0} → Acts C Q R → AskingParts C Q R → Part
question_part acts a = acts.part a.call a.question
