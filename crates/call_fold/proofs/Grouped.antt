-- Requests whose entries stand in groups, as partitions under topics, and calls that keep what they have from answer to answer: their
-- parts and their rows, entry by entry. And rows that are parted into such groups again.
use Rattle.std.proofs.Common.{◌≡◌, ◌∙◌, suc, List, [], ◌∷◌, ◌++◌, Some, length, take, drop, map, refl, sym, ap, append_assoc}
use Rattle.std.specs.List.{flat_map}
use Rattle.call_fold.specs.declared.part.PartAnswer.{PartAnswer}
use Rattle.call_fold.specs.declared.part.Part.{Part}
use Rattle.call_fold.specs.declared.call.Entry.{Entry}
use Rattle.call_fold.specs.declared.call.Entry.TheVariants.{Known, Ask}
use Rattle.call_fold.specs.Calls.{Acts}
use Rattle.call_fold.specs.Talks.{talk, talk_parts, talk_reply, questions, parts, entry_rows, last_call}
use Rattle.call_fold.proofs.Talked.{asks_all, says_all}

-- ---- rows in groups

pub took : {A B R : Type 0} (f : A → R) (h : A → B) (xs : List A) (ys : List R) → take (length (map h xs)) (map f xs ++ ys) ≡ map f xs
took f h [] ys = refl
took f h (x ∷ xs) ys = ap (λ l. f x ∷ l) (took f h xs ys)

pub left_over : {A B R : Type 0} (f : A → R) (h : A → B) (xs : List A) (ys : List R) → drop (length (map h xs)) (map f xs ++ ys) ≡ ys
left_over f h [] ys = refl
left_over f h (x ∷ xs) ys = left_over f h xs ys

pub took_all : {A R : Type 0} (f : A → R) (xs : List A) (ys : List R) → take (length xs) (map f xs ++ ys) ≡ map f xs
took_all f [] ys = refl
took_all f (x ∷ xs) ys = ap (λ l. f x ∷ l) (took_all f xs ys)

pub left_all : {A R : Type 0} (f : A → R) (xs : List A) (ys : List R) → drop (length xs) (map f xs ++ ys) ≡ ys
left_all f [] ys = refl
left_all f (x ∷ xs) ys = left_all f xs ys

-- ---- calls that keep what they have

-- the parts of all questions
abbrev pub part_list : {C Q R : Type 0} → Acts C Q R → C → List (Entry Q R) → List Part
part_list acts call [] = []
part_list acts call (Known row ∷ es) = part_list acts call es
part_list acts call (Ask question ∷ es) = acts.part call question ∷ part_list acts call es

abbrev pub Keeps : {C Q R : Type 0} → Acts C Q R → C → Type 0
Keeps {C} {Q} {R} acts call = (question : Q) (answer : PartAnswer) → acts.next call question answer ≡ call

module _ {C Q R : Type 0} (acts : Acts C Q R) (call : C) (keeps : Keeps acts call) where
  same_call : (es : List (Entry Q R)) (ans : List PartAnswer) → last_call acts call es ans ≡ call
  same_call [] ans = refl
  same_call (Known row ∷ es) ans = same_call es ans
  same_call (Ask question ∷ es) [] = refl
  same_call (Ask question ∷ es) (a ∷ ans) = ap (λ c. last_call acts c es ans) (keeps question a) ∙ same_call es ans

  parts_first : (es : List (Entry Q R)) (ans : List PartAnswer) → parts acts call es ans ≡ take (suc (length ans)) (part_list acts call es)
  parts_first [] ans = refl
  parts_first (Known row ∷ es) ans = parts_first es ans
  parts_first (Ask question ∷ es) [] = refl
  parts_first (Ask question ∷ es) (a ∷ ans) =
      ap (λ c. acts.part call question ∷ parts acts c es ans) (keeps question a) ∙ ap (λ l. acts.part call question ∷ l) (parts_first es ans)

-- ---- entries in groups: T is a group, and X one thing in it, of which there is one entry

module _ {C Q R T X : Type 0} (acts : Acts C Q R) (call : C) (items : T → List X) (entry : T → X → Entry Q R) where
  abbrev pub entries_in : List T → List (Entry Q R)
  entries_in ts = flat_map (λ t. map (entry t) (items t)) ts

  -- the parts of one thing
  abbrev pub HasParts : (T → X → List Part) → Type 0
  HasParts own = (t : T) (x : X) (es : List (Entry Q R)) → part_list acts call (entry t x ∷ es) ≡ own t x ++ part_list acts call es

  parts_one : (own : T → X → List Part) → HasParts own → (t : T) (xs : List X) (es : List (Entry Q R)) →
      part_list acts call (map (entry t) xs ++ es) ≡ flat_map (own t) xs ++ part_list acts call es
  parts_one own has t [] es = refl
  parts_one own has t (x ∷ xs) es =
      has t x (map (entry t) xs ++ es) ∙ ap (λ l. own t x ++ l) (parts_one own has t xs es)
      ∙ sym (append_assoc (own t x) (flat_map (own t) xs) (part_list acts call es))

  parts_all : (own : T → X → List Part) → HasParts own → (ts : List T) → part_list acts call (entries_in ts) ≡ flat_map (λ t. flat_map (own t) (items t)) ts
  parts_all own has [] = refl
  parts_all own has (t ∷ ts) = parts_one own has t (items t) (entries_in ts) ∙ ap (λ l. flat_map (own t) (items t) ++ l) (parts_all own has ts)

  -- each thing asks its own parts, in order
  pub groups_ask : Keeps acts call → (own : T → X → List Part) → HasParts own → (ts : List T) (answers : List PartAnswer) →
      talk_parts (talk acts call (entries_in ts) []) answers ≡ take (suc (length answers)) (flat_map (λ t. flat_map (own t) (items t)) ts)
  groups_ask keeps own has ts answers =
      asks_all acts call (entries_in ts) [] answers ∙ parts_first acts call keeps (entries_in ts) answers
      ∙ ap (take (suc (length answers))) (parts_all own has ts)

  module _ (answers : T → X → List PartAnswer) where
    abbrev pub answers_in : List T → List PartAnswer
    answers_in ts = flat_map (λ t. flat_map (answers t) (items t)) ts

    -- a thing and its answers make its row
    pub record MakesRow (own : T → X → R) : Type 0 where
      pub row : (t : T) (x : X) (es : List (Entry Q R)) (ans : List PartAnswer) →
          entry_rows acts call (entry t x ∷ es) (answers t x ++ ans) ≡ own t x ∷ entry_rows acts call es ans
      pub count : (t : T) (x : X) (es : List (Entry Q R)) (ans : List PartAnswer) → length ans ≡ questions es →
          length (answers t x ++ ans) ≡ questions (entry t x ∷ es)

    module _ (own : T → X → R) (makes : MakesRow own) where
      rows_one : (t : T) (xs : List X) (es : List (Entry Q R)) (ans : List PartAnswer) →
          entry_rows acts call (map (entry t) xs ++ es) (flat_map (answers t) xs ++ ans) ≡ map (own t) xs ++ entry_rows acts call es ans
      rows_one t [] es ans = refl
      rows_one t (x ∷ xs) es ans =
          let others = map (entry t) xs ++ es in
          ap (entry_rows acts call (entry t x ∷ others)) (append_assoc (answers t x) (flat_map (answers t) xs) ans)
          ∙ makes.row t x others (flat_map (answers t) xs ++ ans)
          ∙ ap (λ l. own t x ∷ l) (rows_one t xs es ans)

      count_one : (t : T) (xs : List X) (es : List (Entry Q R)) (ans : List PartAnswer) → length ans ≡ questions es →
          length (flat_map (answers t) xs ++ ans) ≡ questions (map (entry t) xs ++ es)
      count_one t [] es ans e = e
      count_one t (x ∷ xs) es ans e =
          let others = map (entry t) xs ++ es in
          ap length (append_assoc (answers t x) (flat_map (answers t) xs) ans)
          ∙ makes.count t x others (flat_map (answers t) xs ++ ans) (count_one t xs es ans e)

      rows_all : (ts : List T) → entry_rows acts call (entries_in ts) (answers_in ts) ≡ flat_map (λ t. map (own t) (items t)) ts
      rows_all [] = refl
      rows_all (t ∷ ts) = rows_one t (items t) (entries_in ts) (answers_in ts) ∙ ap (λ l. map (own t) (items t) ++ l) (rows_all ts)

      count_all : (ts : List T) → length (answers_in ts) ≡ questions (entries_in ts)
      count_all [] = refl
      count_all (t ∷ ts) = count_one t (items t) (entries_in ts) (answers_in ts) (count_all ts)

      -- once all answers are there, the reply has each thing's own row, in order
      pub groups_say : Keeps acts call → (ts : List T) →
          talk_reply (talk acts call (entries_in ts) []) (answers_in ts) ≡ Some (acts.body call (flat_map (λ t. map (own t) (items t)) ts))
      groups_say keeps ts =
          says_all acts call (entries_in ts) [] (answers_in ts) (count_all ts)
          ∙ ap (λ c. Some (acts.body c (entry_rows acts call (entries_in ts) (answers_in ts)))) (same_call acts call keeps (entries_in ts) (answers_in ts))
          ∙ ap (λ l. Some (acts.body call l)) (rows_all ts)
