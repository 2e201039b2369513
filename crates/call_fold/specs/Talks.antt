-- What a request means: the parts that it asks, each by the answers before it, and the body of its reply once all are answered
-- (this project's own). Answers belong to parts by their place. No call is named here.
-- For example a Read of partitions 5 and 6 asks 5, then by any answer 6, and then says what the two answers told (row_tests,
-- `parts are asked and told in the order of the request`).
use Rattle.std.specs.Prelude.{◌≡◌, ℕ, List, [], ◌∷◌, ◌++◌, Option, Some, None, length, suc}
use Rattle.call_fold.specs.declared.part.Part.{Part}
use Rattle.call_fold.specs.declared.part.PartAnswer.{PartAnswer}
use Rattle.call_fold.specs.declared.call.Entry.{Entry}
use Rattle.call_fold.specs.declared.call.Entry.TheVariants.{Known, Ask}
use Rattle.call_fold.specs.declared.call.Stage.{Stage}
use Rattle.call_fold.specs.declared.call.Stage.TheVariants.{Asks, Says}
use Rattle.call_fold.specs.Calls.{Acts, AskingParts}
use Rattle.call_fold.specs.Going.{stage_of, stage_after}

-- it says the body of its reply, if it has one, or asks a part and goes on by the answer
pub data Talk : Type 0 where
  says : Option (List ℕ) → Talk
  asks : Part → (PartAnswer → Talk) → Talk

-- the parts that are asked while these answers come, the one that waits for its answer last
abbrev pub talk_parts : Talk → List PartAnswer → List Part
talk_parts (says body) answers = []
talk_parts (asks part go) [] = part ∷ []
talk_parts (asks part go) (answer ∷ answers) = part ∷ talk_parts (go answer) answers

-- the body of the reply, once the answers are all there
abbrev pub talk_reply : Talk → List PartAnswer → Option (Option (List ℕ))
talk_reply (says body) answers = Some body
talk_reply (asks part go) [] = None
talk_reply (asks part go) (answer ∷ answers) = talk_reply (go answer) answers

-- what a call means by its entries
abbrev pub talk : {C Q R : Type 0} → Acts C Q R → C → List (Entry Q R) → List R → Talk
talk acts call [] rows = says (acts.body call rows)
talk acts call (Known row ∷ left) rows = talk acts call left (rows ++ row ∷ [])
talk acts call (Ask question ∷ left) rows =
    asks (acts.part call question) (λ answer. talk acts (acts.next call question answer) left (rows ++ acts.row call question answer ∷ []))

-- what a question leaves to be asked and said
abbrev pub talk_after : {C Q R : Type 0} → Acts C Q R → AskingParts C Q R → PartAnswer → Talk
talk_after acts a answer = talk acts (acts.next a.call a.question answer) a.left (a.rows ++ acts.row a.call a.question answer ∷ [])

abbrev pub talk_of : {C Q R : Type 0} → Acts C Q R → AskingParts C Q R → Talk
talk_of acts a = asks (acts.part a.call a.question) (talk_after acts a)

abbrev pub stage_talk : {A : Type 0} → (A → Talk) → Stage A → Talk
stage_talk f (Asks a) = f a
stage_talk f (Says body) = says body

-- ---- the plan of a call in plain words

-- how many questions there are
abbrev pub questions : {Q R : Type 0} → List (Entry Q R) → ℕ
questions [] = 0
questions (Known row ∷ entries) = questions entries
questions (Ask question ∷ entries) = suc (questions entries)

-- the parts: one for each question, in order, by what the answers before it leave
abbrev pub parts : {C Q R : Type 0} → Acts C Q R → C → List (Entry Q R) → List PartAnswer → List Part
parts acts call [] answers = []
parts acts call (Known row ∷ entries) answers = parts acts call entries answers
parts acts call (Ask question ∷ entries) [] = acts.part call question ∷ []
parts acts call (Ask question ∷ entries) (answer ∷ answers) = acts.part call question ∷ parts acts (acts.next call question answer) entries answers

-- the rows: one for each entry, in order, made of that entry and of its own answer
abbrev pub entry_rows : {C Q R : Type 0} → Acts C Q R → C → List (Entry Q R) → List PartAnswer → List R
entry_rows acts call [] answers = []
entry_rows acts call (Known row ∷ entries) answers = row ∷ entry_rows acts call entries answers
entry_rows acts call (Ask question ∷ entries) [] = []
entry_rows acts call (Ask question ∷ entries) (answer ∷ answers) =
    acts.row call question answer ∷ entry_rows acts (acts.next call question answer) entries answers

-- what the call keeps in the end
abbrev pub last_call : {C Q R : Type 0} → Acts C Q R → C → List (Entry Q R) → List PartAnswer → C
last_call acts call [] answers = call
last_call acts call (Known row ∷ entries) answers = last_call acts call entries answers
last_call acts call (Ask question ∷ entries) [] = call
last_call acts call (Ask question ∷ entries) (answer ∷ answers) = last_call acts (acts.next call question answer) entries answers

-- A request in hand keeps to the talk of its entries. It asks these parts and no others, and once each question has its answer the
-- reply has the rows of the entries.
pub record MeansItsEntries {C Q R : Type 0} (acts : Acts C Q R) : Type 0 where
  pub begins : (call : C) (entries : List (Entry Q R)) → stage_talk (talk_of acts) (stage_of acts call entries []) ≡ talk acts call entries []
  pub goes_on : (a : AskingParts C Q R) (answer : PartAnswer) → stage_talk (talk_of acts) (stage_after acts a answer) ≡ talk_after acts a answer
  pub asks_parts : (call : C) (entries : List (Entry Q R)) (answers : List PartAnswer) → talk_parts (talk acts call entries []) answers ≡ parts acts call entries answers
  pub says_rows : (call : C) (entries : List (Entry Q R)) (answers : List PartAnswer) → length answers ≡ questions entries →
      talk_reply (talk acts call entries []) answers ≡ Some (acts.body (last_call acts call entries answers) (entry_rows acts call entries answers))
