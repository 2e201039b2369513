-- What answers make of entries that stand one for each thing, and which questions they are.
use Rattle.std.proofs.Common.{◌≡◌, ◌∙◌, List, [], ◌∷◌, ◌++◌, map, refl, sym, ap, append_assoc}
use Rattle.std.specs.List.{flat_map}
use Rattle.call_fold.specs.declared.call.Entry.{Entry}
use Rattle.describe_calls.specs.Filled.{filled, questions_of}

-- one after another over a second list
pub map_twice : {X Y Z : Type 0} (g : Y → Z) (f : X → Y) (xs : List X) → map g (map f xs) ≡ map (λ x. g (f x)) xs
map_twice g f [] = refl
map_twice g f (x ∷ xs) = ap (λ l. g (f x) ∷ l) (map_twice g f xs)

module _ {Q R X : Type 0} (entry : X → Entry Q R) where
  module _ (own : X → List Q) (asks : (x : X) (es : List (Entry Q R)) → questions_of (entry x ∷ es) ≡ own x ++ questions_of es) where
    pub questions_all : (xs : List X) (es : List (Entry Q R)) → questions_of (map entry xs ++ es) ≡ flat_map own xs ++ questions_of es
    questions_all [] es = refl
    questions_all (x ∷ xs) es =
        asks x (map entry xs ++ es) ∙ ap (λ l. own x ++ l) (questions_all xs es) ∙ sym (append_assoc (own x) (flat_map own xs) (questions_of es))

  module _ {A : Type 0} (row : Q → A → R) (answers : X → List A) (own : X → R)
      (makes : (x : X) (es : List (Entry Q R)) (ans : List A) → filled row (entry x ∷ es) (answers x ++ ans) ≡ own x ∷ filled row es ans) where
    pub filled_all : (xs : List X) (es : List (Entry Q R)) (ans : List A) →
        filled row (map entry xs ++ es) (flat_map answers xs ++ ans) ≡ map own xs ++ filled row es ans
    filled_all [] es ans = refl
    filled_all (x ∷ xs) es ans =
        let others = map entry xs ++ es in
        ap (filled row (entry x ∷ others)) (append_assoc (answers x) (flat_map answers xs) ans)
        ∙ makes x others (flat_map answers xs ++ ans)
        ∙ ap (λ l. own x ∷ l) (filled_all xs es ans)
