-- Look-ups by name in what the entries of a list have together: each entry has pieces, and each piece has a name.
use Rattle.std.proofs.Common.{◌≡◌, refl, sym, ap, subst, ℕ, zero, suc, List, [], ◌∷◌, ◌++◌, map, Bool, true, false, cond}
use Rattle.std.specs.List.{AllByRecursion, AllZip, flat_map}
use Rattle.broker_model.specs.Hosted.{ChangesAt, HoldsAt, same_name}
use Rattle.broker_hosts.specs.Hosts.{among}

-- ---- pieces one after another

pub map_append : {X Y : Type 0} (f : X → Y) (xs ys : List X) → map f (xs ++ ys) ≡ map f xs ++ map f ys
map_append f [] ys = refl
map_append f (x ∷ xs) ys = ap (λ l. f x ∷ l) (map_append f xs ys)

pub all_append : {X : Type 0} (P : X → Type 0) (xs ys : List X) → AllByRecursion P xs → AllByRecursion P ys → AllByRecursion P (xs ++ ys)
all_append P [] ys p q = q
all_append P (x ∷ xs) ys p q = (p.0, all_append P xs ys p.1 q)

pub zip_append : {X Y : Type 0} (R : X → Y → Type 0) (xs : List X) (ys : List Y) (us : List X) (vs : List Y) → AllZip R xs ys → AllZip R us vs
    → AllZip R (xs ++ us) (ys ++ vs)
zip_append R [] [] us vs z w = w
zip_append R [] (y ∷ ys) us vs z w = absurd z
zip_append R (x ∷ xs) [] us vs z w = absurd z
zip_append R (x ∷ xs) (y ∷ ys) us vs z w = (z.0, zip_append R xs ys us vs z.1 w)

pub zip_flat : {X Y E F : Type 0} (R : X → Y → Type 0) (S : E → F → Type 0) (pieces : X → List E) (parts : Y → List F)
    → ((x : X) (y : Y) → R x y → AllZip S (pieces x) (parts y)) → (xs : List X) (ys : List Y) → AllZip R xs ys
    → AllZip S (flat_map pieces xs) (flat_map parts ys)
zip_flat R S pieces parts f [] [] z = tt
zip_flat R S pieces parts f [] (y ∷ ys) z = absurd z
zip_flat R S pieces parts f (x ∷ xs) [] z = absurd z
zip_flat R S pieces parts f (x ∷ xs) (y ∷ ys) z =
    zip_append S (pieces x) (parts y) (flat_map pieces xs) (flat_map parts ys) (f x y z.0) (zip_flat R S pieces parts f xs ys z.1)

pub all_in_front : {X : Type 0} (P : X → Type 0) (xs ys : List X) → AllByRecursion P (xs ++ ys) → AllByRecursion P xs
all_in_front P [] ys p = tt
all_in_front P (x ∷ xs) ys p = (p.0, all_in_front P xs ys p.1)

pub all_in_rest : {X : Type 0} (P : X → Type 0) (xs ys : List X) → AllByRecursion P (xs ++ ys) → AllByRecursion P ys
all_in_rest P [] ys p = p
all_in_rest P (x ∷ xs) ys p = all_in_rest P xs ys p.1

-- what holds of all pieces holds of those of one entry
pub pieces_at : {X E : Type 0} (pieces : X → List E) (P : E → Type 0) (n : ℕ) (xs : List X) (x : X) → HoldsAt n (λ z. z ≡ x) xs
    → AllByRecursion P (flat_map pieces xs) → AllByRecursion P (pieces x)
pieces_at pieces P n [] x h all = absurd h
pieces_at pieces P zero (z ∷ xs) x h all =
    subst (λ w. AllByRecursion P (pieces w)) h (all_in_front P (pieces z) (flat_map pieces xs) all)
pieces_at pieces P (suc n) (z ∷ xs) x h all = pieces_at pieces P n xs x h (all_in_rest P (pieces z) (flat_map pieces xs) all)

-- what holds of all pieces, entry by entry
pub all_pieces : {X E : Type 0} (pieces : X → List E) (P : E → Type 0) (xs : List X) → AllByRecursion P (flat_map pieces xs)
    → AllByRecursion (λ x. AllByRecursion P (pieces x)) xs
all_pieces pieces P [] all = tt
all_pieces pieces P (x ∷ xs) all =
    (all_in_front P (pieces x) (flat_map pieces xs) all, all_pieces pieces P xs (all_in_rest P (pieces x) (flat_map pieces xs) all))

-- ---- look-ups

module _ {E A : Type 0} (name_of : E → List ℕ) (has : E → A) where
  abbrev Among : List E → A → List ℕ → A
  Among es other name = among name_of has es other name

  pub among_append : (es fs : List E) (other : A) (name : List ℕ) → Among (es ++ fs) other name ≡ Among es (Among fs other name) name
  among_append [] fs other name = refl
  among_append (e ∷ es) fs other name = ap (cond (same_name name (name_of e)) (has e)) (among_append es fs other name)

  module _ {X : Type 0} (pieces : X → List E) where
    abbrev flat : List X → List E
    flat xs = flat_map pieces xs

    -- where one entry changes so, what is found changes so
    pub among_changed : (R : A → A → Type 0) → ((a : A) → R a a) → (name : List ℕ) (n : ℕ) (xs ys : List X)
        → ChangesAt n (λ x y. (o : A) → R (Among (pieces x) o name) (Among (pieces y) o name)) xs ys → (other : A)
        → R (Among (flat xs) other name) (Among (flat ys) other name)
    among_changed R same name n [] ys c other = absurd c
    among_changed R same name zero (x ∷ xs) [] c other = absurd c
    among_changed R same name zero (x ∷ xs) (y ∷ ys) c other =
        subst (λ (a : A). R a (Among (flat (y ∷ ys)) other name)) (sym (among_append (pieces x) (flat xs) other name))
        (subst (λ (a : A). R (Among (pieces x) (Among (flat xs) other name) name) a) (sym (among_append (pieces y) (flat ys) other name))
        (subst (λ (l : List X). R (Among (pieces x) (Among (flat xs) other name) name) (Among (pieces y) (Among (flat l) other name) name)) (sym c.1)
        (c.0 (Among (flat xs) other name))))
    among_changed R same name (suc n) (x ∷ xs) [] c other = absurd c
    among_changed R same name (suc n) (x ∷ xs) (y ∷ ys) c other =
        subst (λ (z : X). R (Among (flat (x ∷ xs)) other name) (Among (flat (z ∷ ys)) other name)) (sym c.0)
        (subst (λ (a : A). R a (Among (flat (x ∷ ys)) other name)) (sym (among_append (pieces x) (flat xs) other name))
        (subst (λ (a : A). R (Among (pieces x) (Among (flat xs) other name) name) a) (sym (among_append (pieces x) (flat ys) other name))
        (among_over R same (pieces x) (Among (flat xs) other name) (Among (flat ys) other name) (among_changed R same name n xs ys c.1 other))))
      where
        among_over : (R : A → A → Type 0) → ((a : A) → R a a) → (es : List E) (other more : A) → R other more → R (Among es other name) (Among es more name)
        among_over R same [] other more r = r
        among_over R same (e ∷ es) other more r = go (same_name name (name_of e)) (among_over R same es other more r) where
          go : (b : Bool) → R (Among es other name) (Among es more name) → R (cond b (has e) (Among es other name)) (cond b (has e) (Among es more name))
          go true ih = same (has e)
          go false ih = ih
