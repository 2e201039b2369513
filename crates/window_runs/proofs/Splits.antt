-- Places in lists.
use Rattle.std.proofs.Common.{◌≡◌, ℕ, zero, suc, ◌+◌, ◌<◌, ◌≤◌, List, [], ◌∷◌, ◌++◌, length, take, drop, set, get_or, Some, None, refl, ap, ◌∙◌, sym, arith}
use Rattle.std.specs.List.{slice_get, insert, remove}

pub get_within : {X : Type 0} (xs : List X) (n : ℕ) (x : X) → slice_get xs n ≡ Some x → n < length xs
get_within [] n x is = absurd (cc)
get_within (y ∷ ys) zero x is = omega arith
get_within (y ∷ ys) (suc n) x is = omega (arith, get_within ys n x is)

pub get_there : {X : Type 0} (xs : List X) (n : ℕ) (d : X) → n < length xs → slice_get xs n ≡ Some (get_or xs n d)
get_there [] n d within = absurd (omega arith)
get_there (y ∷ ys) zero d within = refl
get_there (y ∷ ys) (suc n) d within = get_there ys n d (omega arith)

some_one : {X : Type 0} (x y : X) → Some x ≡ Some y → x ≡ y
some_one x y is = cc

pub get_is : {X : Type 0} (xs : List X) (n : ℕ) (x d : X) → slice_get xs n ≡ Some x → get_or xs n d ≡ x
get_is xs n x d is = some_one _ x (sym (get_there xs n d (get_within xs n x is)) ∙ is)

pub same_get : {X : Type 0} (xs : List X) (n : ℕ) (x y : X) → slice_get xs n ≡ Some x → slice_get xs n ≡ Some y → x ≡ y
same_get xs n x y one other = some_one x y (sym one ∙ other)

pub get_split : {X : Type 0} (xs : List X) (n : ℕ) (x : X) → slice_get xs n ≡ Some x → xs ≡ take n xs ++ (x ∷ drop (suc n) xs)
get_split [] n x is = absurd (cc)
get_split (y ∷ ys) zero x is = let same = some_one y x is in ap (λ z. z ∷ ys) same
get_split (y ∷ ys) (suc n) x is = ap (λ l. y ∷ l) (get_split ys n x is)

pub set_split : {X : Type 0} (xs : List X) (n : ℕ) (x : X) → n < length xs → set xs n x ≡ take n xs ++ (x ∷ drop (suc n) xs)
set_split [] n x within = absurd (omega arith)
set_split (y ∷ ys) zero x within = refl
set_split (y ∷ ys) (suc n) x within = ap (λ l. y ∷ l) (set_split ys n x (omega arith))

-- two in the place of one
pub set_and_insert : {X : Type 0} (xs : List X) (n : ℕ) (x y : X) → n < length xs → insert (set xs n x) (suc n) y ≡ take n xs ++ (x ∷ (y ∷ drop (suc n) xs))
set_and_insert [] n x y within = absurd (omega arith)
set_and_insert (z ∷ zs) zero x y within = refl
set_and_insert (z ∷ zs) (suc n) x y within = ap (λ l. z ∷ l) (set_and_insert zs n x y (omega arith))

-- one in the place of two
pub set_and_remove : {X : Type 0} (xs : List X) (n : ℕ) (x : X) → suc n < length xs → remove (set xs n x) (suc n) ≡ take n xs ++ (x ∷ drop (suc (suc n)) xs)
set_and_remove [] n x within = absurd (omega arith)
set_and_remove (z ∷ zs) zero x within = refl
set_and_remove (z ∷ zs) (suc n) x within = ap (λ l. z ∷ l) (set_and_remove zs n x (omega arith))

pub drop_get : {X : Type 0} (xs : List X) (n : ℕ) (x : X) → slice_get xs n ≡ Some x → drop n xs ≡ x ∷ drop (suc n) xs
drop_get [] n x is = absurd (cc)
drop_get (y ∷ ys) zero x is = let same = some_one y x is in ap (λ z. z ∷ ys) same
drop_get (y ∷ ys) (suc n) x is = drop_get ys n x is

pub take_get : {X : Type 0} (xs : List X) (n : ℕ) (x : X) → slice_get xs n ≡ Some x → take (suc n) xs ≡ take n xs ++ (x ∷ [])
take_get [] n x is = absurd (cc)
take_get (y ∷ ys) zero x is = let same = some_one y x is in ap (λ z. z ∷ []) same
take_get (y ∷ ys) (suc n) x is = ap (λ l. y ∷ l) (take_get ys n x is)

pub take_and_drop : {X : Type 0} (xs : List X) (n : ℕ) → xs ≡ take n xs ++ drop n xs
take_and_drop [] zero = refl
take_and_drop [] (suc n) = refl
take_and_drop (y ∷ ys) zero = refl
take_and_drop (y ∷ ys) (suc n) = ap (λ l. y ∷ l) (take_and_drop ys n)

pub take_all : {X : Type 0} (xs : List X) (n : ℕ) → length xs ≤ n → take n xs ≡ xs
take_all [] zero within = refl
take_all [] (suc n) within = refl
take_all (y ∷ ys) zero within = absurd (omega arith)
take_all (y ∷ ys) (suc n) within = ap (λ l. y ∷ l) (take_all ys n (omega arith))

pub drop_all : {X : Type 0} (xs : List X) (n : ℕ) → length xs ≤ n → drop n xs ≡ []
drop_all [] zero within = refl
drop_all [] (suc n) within = refl
drop_all (y ∷ ys) zero within = absurd (omega arith)
drop_all (y ∷ ys) (suc n) within = drop_all ys n (omega arith)

pub get_none : {X : Type 0} (xs : List X) (n : ℕ) → length xs ≤ n → slice_get xs n ≡ None
get_none [] n within = refl
get_none (y ∷ ys) zero within = absurd (omega arith)
get_none (y ∷ ys) (suc n) within = get_none ys n (omega arith)

pub plus_one : (n : ℕ) → n + 1 ≡ suc n
plus_one n = omega arith
