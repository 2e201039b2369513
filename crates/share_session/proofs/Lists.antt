-- On lists.
use Rattle.std.proofs.Common.{◌≡◌, ◌<◌, ◌+◌, ℕ, Bool, true, false, cond, ◌||◌, is_some, List, [], ◌∷◌, ◌++◌, Option, Some, None, length, map, drop, get_or, refl, sym, ap, ◌∙◌, arith}
use Rattle.std.specs.List.{fold, filter_map, flat_map, cons_option, list_any}
use Rattle.std.specs.Map.{lookup}
use Rattle.std.proofs.lemmas.List.{drop_more}
use Rattle.std.proofs.lemmas.List.Sums.{fold-append}
use Rattle.std.proofs.lemmas.List.Elements.{filter_map-append}
use Rattle.share_model.specs.Acks.{types_in}
use Rattle.share_model.specs.declared.ack.AckBatch.{AckBatch}

pub types_in_snoc : (xs : List AckBatch) (b : AckBatch) → types_in (xs ++ b ∷ []) ≡ types_in xs + length b.types
types_in_snoc [] b = omega arith
types_in_snoc (x ∷ xs) b = omega (arith, types_in_snoc xs b)

-- what is left at an item
pub drop_item : {X : Type 0} (xs : List X) (i : ℕ) (x : X) → i < length xs → x ≡ get_or xs i x → drop i xs ≡ x ∷ drop (i + 1) xs
drop_item xs i x within is = drop_more xs i x within ∙ ap (λ y. y ∷ drop (i + 1) xs) (sym is)

-- a fold over what a function finds, in two pieces
pub fold_found : {A B X : Type 0} (put : B → A → B) (find : X → Option A) (b : B) (xs ys : List X) →
    fold put b (filter_map find (xs ++ ys)) ≡ fold put (fold put b (filter_map find xs)) (filter_map find ys)
fold_found put find b xs ys = ap (fold put b) (filter_map-append find xs ys) ∙ fold-append put b (filter_map find xs) (filter_map find ys)

-- a loop over groups, one group on
pub fold_groups : {A B T X : Type 0} (put : B → A → B) (find : X → Option A) (items : T → List X) (ts : List T) (i : ℕ) (t : T) (old new all : B) →
    i < length ts → t ≡ get_or ts i t → new ≡ fold put old (filter_map find (items t)) → fold put old (filter_map find (flat_map items (drop i ts))) ≡ all →
    fold put new (filter_map find (flat_map items (drop (i + 1) ts))) ≡ all
fold_groups put find items ts i t old new all within is step h =
    let rest = drop (i + 1) ts in
    ap (λ b. fold put b (filter_map find (flat_map items rest))) step
    ∙ sym (fold_found put find old (items t) (flat_map items rest))
    ∙ ap (λ l. fold put old (filter_map find (flat_map items l))) (sym (drop_item ts i t within is))
    ∙ h

found_first : {A B : Type 0} (put : B → A → B) (b : B) (o : Option A) (ys : List A) → fold put b (cons_option o ys) ≡ fold put (fold put b (cons_option o [])) ys
found_first put b None ys = refl
found_first put b (Some x) ys = refl

-- a loop over the items of a group, one item on
pub fold_item : {A B X Y : Type 0} (put : B → A → B) (find : Y → Option A) (f : X → Y) (xs : List X) (i : ℕ) (x : X) (old new all : B) →
    i < length xs → x ≡ get_or xs i x → new ≡ fold put old (cons_option (find (f x)) []) → fold put old (filter_map find (map f (drop i xs))) ≡ all →
    fold put new (filter_map find (map f (drop (i + 1) xs))) ≡ all
fold_item put find f xs i x old new all within is step h =
    let rest = filter_map find (map f (drop (i + 1) xs)) in
    ap (λ b. fold put b rest) step
    ∙ sym (found_first put old (find (f x)) rest)
    ∙ ap (λ l. fold put old (filter_map find (map f l))) (sym (drop_item xs i x within is))
    ∙ h

-- a key is found where it is among the keys
module _ {W : Type 0} (test : ℕ → Bool) where
  pub is_some_lookup : (es : List (ℕ × W)) → is_some (lookup test es) ≡ list_any test (map (λ (e : ℕ × W). e.0) es)
  is_some_lookup [] = refl
  is_some_lookup (e ∷ es) = by (test e.0) (is_some_lookup es)
    where
      by : (b : Bool) → is_some (lookup test es) ≡ list_any test (map (λ (e : ℕ × W). e.0) es) → is_some (cond b (Some e.1) (lookup test es)) ≡ (b || list_any test (map (λ (e : ℕ × W). e.0) es))
      by true h = refl
      by false h = h
