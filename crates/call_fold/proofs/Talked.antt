-- A request in hand keeps to its talk, and a talk says what its entries mean.
use Rattle.std.proofs.Common.{◌≡◌, ◌∙◌, List, [], ◌∷◌, ◌++◌, Some, length, refl, sym, ap, arith, append_assoc, append-nil}
use Rattle.call_fold.specs.declared.part.PartAnswer.{PartAnswer}
use Rattle.call_fold.specs.declared.part.Part.{Part}
use Rattle.call_fold.specs.declared.call.Entry.{Entry}
use Rattle.call_fold.specs.declared.call.Entry.TheVariants.{Known, Ask}
use Rattle.call_fold.specs.Calls.{Acts, AskingParts}
use Rattle.call_fold.specs.Going.{stage_of, stage_after}
use Rattle.call_fold.specs.Talks.{talk, talk_after, talk_of, stage_talk, talk_parts, talk_reply, questions, parts, entry_rows, last_call, MeansItsEntries}

begins : {C Q R : Type 0} (acts : Acts C Q R) (call : C) (entries : List (Entry Q R)) (rows : List R) →
    stage_talk (talk_of acts) (stage_of acts call entries rows) ≡ talk acts call entries rows
begins acts call [] rows = refl
begins acts call (Known row ∷ entries) rows = begins acts call entries (rows ++ row ∷ [])
begins acts call (Ask question ∷ entries) rows = refl

goes_alone : {C Q R : Type 0} (acts : Acts C Q R) (a : AskingParts C Q R) (answer : PartAnswer) → stage_talk (talk_of acts) (stage_after acts a answer) ≡ talk_after acts a answer
goes_alone acts a answer = begins acts (acts.next a.call a.question answer) a.left (a.rows ++ acts.row a.call a.question answer ∷ [])

pub asks_all : {C Q R : Type 0} (acts : Acts C Q R) (call : C) (entries : List (Entry Q R)) (rows : List R) (answers : List PartAnswer) →
    talk_parts (talk acts call entries rows) answers ≡ parts acts call entries answers
asks_all acts call [] rows answers = refl
asks_all acts call (Known row ∷ entries) rows answers = asks_all acts call entries (rows ++ row ∷ []) answers
asks_all acts call (Ask question ∷ entries) rows [] = refl
asks_all acts call (Ask question ∷ entries) rows (answer ∷ answers) =
    ap (λ (l : List Part). acts.part call question ∷ l) (asks_all acts (acts.next call question answer) entries (rows ++ acts.row call question answer ∷ []) answers)

pub says_all : {C Q R : Type 0} (acts : Acts C Q R) (call : C) (entries : List (Entry Q R)) (rows : List R) (answers : List PartAnswer) →
    length answers ≡ questions entries →
    talk_reply (talk acts call entries rows) answers ≡ Some (acts.body (last_call acts call entries answers) (rows ++ entry_rows acts call entries answers))
says_all acts call [] rows answers n = ap (λ l. Some (acts.body call l)) (sym (append-nil rows))
says_all acts call (Known row ∷ entries) rows answers n =
    says_all acts call entries (rows ++ row ∷ []) answers n
    ∙ ap (λ l. Some (acts.body (last_call acts call entries answers) l)) (append_assoc rows (row ∷ []) (entry_rows acts call entries answers))
says_all acts call (Ask question ∷ entries) rows [] n = absurd (omega (arith, n))
says_all acts call (Ask question ∷ entries) rows (answer ∷ answers) n =
    let m : length answers ≡ questions entries = omega (arith, n) in
    let next = acts.next call question answer in
    let row = acts.row call question answer in
    says_all acts next entries (rows ++ row ∷ []) answers m
    ∙ ap (λ l. Some (acts.body (last_call acts next entries answers) l)) (append_assoc rows (row ∷ []) (entry_rows acts next entries answers))

pub means_entries : {C Q R : Type 0} (acts : Acts C Q R) → MeansItsEntries acts
means_entries acts = record {
  begins = λ call entries. begins acts call entries [];
  goes_on = λ a answer. goes_alone acts a answer;
  asks_parts = λ call entries answers. asks_all acts call entries [] answers;
  says_rows = λ call entries answers n. says_all acts call entries [] answers n;
}
