-- Lists of which one entry changes, and look-ups by name.
use Rattle.std.proofs.Common.{◌≡◌, ◌≢◌, ◌⊎◌, ◌<◌, ◌+◌, inl, inr, refl, sym, ap, ◌∙◌, subst, arith, ℕ, zero, suc, List, [], ◌∷◌, ◌++◌, map, length, get_or, set, Bool, true, false, cond}
use Rattle.std.specs.List.{AllByRecursion, AllZip}
use Rattle.std.specs.Cmp.Lexicographic.{same_text, other_text}
use Rattle.broker_model.specs.Hosted.{ChangesAt, HoldsAt, IsOneOf, same_name}
use Rattle.broker_hosts.specs.Hosts.{AreDistinct, NotIn, among}

-- ---- one entry changes

pub changes_set : {A : Type 0} (P : A → A → Type 0) (n : ℕ) (xs : List A) (x y : A) → n < length xs → x ≡ get_or xs n x → P x y → ChangesAt n P xs (set xs n y)
changes_set P n [] x y lt is p = absurd (omega (arith, lt))
changes_set P zero (z ∷ xs) x y lt is p = (subst (λ w. P w y) is p, refl)
changes_set P (suc n) (z ∷ xs) x y lt is p = (refl, changes_set P n xs x y (omega (arith, lt)) is p)

pub changes_map : {A B : Type 0} (f : A → B) (P : A → A → Type 0) (Q : B → B → Type 0) → ((x y : A) → P x y → Q (f x) (f y)) → (n : ℕ) (xs ys : List A)
    → ChangesAt n P xs ys → ChangesAt n Q (map f xs) (map f ys)
changes_map f P Q g n [] ys c = absurd c
changes_map f P Q g zero (x ∷ xs) [] c = absurd c
changes_map f P Q g zero (x ∷ xs) (y ∷ ys) c = (g x y c.0, ap (map f) c.1)
changes_map f P Q g (suc n) (x ∷ xs) [] c = absurd c
changes_map f P Q g (suc n) (x ∷ xs) (y ∷ ys) c = (ap f c.0, changes_map f P Q g n xs ys c.1)

-- what stays where an entry changes
pub changes_same : {A B : Type 0} (f : A → B) (P : A → A → Type 0) → ((x y : A) → P x y → f y ≡ f x) → (n : ℕ) (xs ys : List A)
    → ChangesAt n P xs ys → map f ys ≡ map f xs
changes_same f P g n [] ys c = absurd c
changes_same f P g zero (x ∷ xs) [] c = absurd c
changes_same f P g zero (x ∷ xs) (y ∷ ys) c = λ i. g x y c.0 i ∷ map f (c.1 i)
changes_same f P g (suc n) (x ∷ xs) [] c = absurd c
changes_same f P g (suc n) (x ∷ xs) (y ∷ ys) c = λ i. f (c.0 i) ∷ changes_same f P g n xs ys c.1 i

pub changes_not : {A : Type 0} (n : ℕ) (xs ys : List A) → ChangesAt n (λ x y. y ≡ x) xs ys → ys ≡ xs
changes_not n [] ys c = absurd c
changes_not zero (x ∷ xs) [] c = absurd c
changes_not zero (x ∷ xs) (y ∷ ys) c = λ i. c.0 i ∷ c.1 i
changes_not (suc n) (x ∷ xs) [] c = absurd c
changes_not (suc n) (x ∷ xs) (y ∷ ys) c = λ i. c.0 i ∷ changes_not n xs ys c.1 i

-- a change that is one of two kinds
pub changes_either : {A X : Type 0} (L : A → A → Type 0) (R : X → A → A → Type 0) (n : ℕ) (xs ys : List A)
    → ChangesAt n (λ x y. L x y ⊎ ((p : X) × R p x y)) xs ys → ChangesAt n L xs ys ⊎ ((p : X) × ChangesAt n (R p) xs ys)
changes_either L R n [] ys c = absurd c
changes_either L R zero (x ∷ xs) [] c = absurd c
changes_either L R zero (x ∷ xs) (y ∷ ys) (inl l, e) = inl (l, e)
changes_either L R zero (x ∷ xs) (y ∷ ys) (inr r, e) = inr (r.0, (r.1, e))
changes_either L R (suc n) (x ∷ xs) [] c = absurd c
changes_either {A} {X} L R (suc n) (x ∷ xs) (y ∷ ys) c = go (changes_either L R n xs ys c.1) where
  go : ChangesAt n L xs ys ⊎ ((p : X) × ChangesAt n (R p) xs ys) → ChangesAt (suc n) L (x ∷ xs) (y ∷ ys) ⊎ ((p : X) × ChangesAt (suc n) (R p) (x ∷ xs) (y ∷ ys))
  go (inl l) = inl (c.0, l)
  go (inr r) = inr (r.0, (c.0, r.1))

-- this holds of each, before and after
pub changes_all : {A : Type 0} (P : A → A → Type 0) (Q : A → Type 0) → ((x y : A) → P x y → Q y) → (n : ℕ) (xs ys : List A) → ChangesAt n P xs ys
    → AllByRecursion Q xs → AllByRecursion Q ys
changes_all P Q f n [] ys c q = absurd c
changes_all P Q f zero (x ∷ xs) [] c q = absurd c
changes_all P Q f zero (x ∷ xs) (y ∷ ys) c q = (f x y c.0, subst (λ l. AllByRecursion Q l) (sym c.1) q.1)
changes_all P Q f (suc n) (x ∷ xs) [] c q = absurd c
changes_all P Q f (suc n) (x ∷ xs) (y ∷ ys) c q = (subst Q (sym c.0) q.0, changes_all P Q f n xs ys c.1 q.1)

pub changes_zip : {A : Type 0} (P R : A → A → Type 0) → ((x : A) → R x x) → ((x y : A) → P x y → R x y) → (n : ℕ) (xs ys : List A) → ChangesAt n P xs ys
    → AllZip R xs ys
changes_zip P R same f n [] ys c = absurd c
changes_zip P R same f zero (x ∷ xs) [] c = absurd c
changes_zip P R same f zero (x ∷ xs) (y ∷ ys) c = (f x y c.0, subst (λ l. AllZip R xs l) (sym c.1) (zip_same R same xs)) where
  zip_same : {B : Type 0} (S : B → B → Type 0) → ((z : B) → S z z) → (zs : List B) → AllZip S zs zs
  zip_same S s [] = tt
  zip_same S s (z ∷ zs) = (s z, zip_same S s zs)
changes_zip P R same f (suc n) (x ∷ xs) [] c = absurd c
changes_zip P R same f (suc n) (x ∷ xs) (y ∷ ys) c = (subst (λ z. R x z) (sym c.0) (same x), changes_zip P R same f n xs ys c.1)

pub changes_within : {A : Type 0} (P : A → A → Type 0) (n : ℕ) (xs ys : List A) → ChangesAt n P xs ys → n < length xs
changes_within P n [] ys c = absurd c
changes_within P zero (x ∷ xs) [] c = absurd c
changes_within P zero (x ∷ xs) (y ∷ ys) c = omega arith
changes_within P (suc n) (x ∷ xs) [] c = absurd c
changes_within P (suc n) (x ∷ xs) (y ∷ ys) c = let lt = changes_within P n xs ys c.1 in omega (arith, lt)

-- ---- lists side by side

pub zip_same : {A : Type 0} (R : A → A → Type 0) → ((x : A) → R x x) → (xs : List A) → AllZip R xs xs
zip_same R s [] = tt
zip_same R s (x ∷ xs) = (s x, zip_same R s xs)

pub zip_weaker : {A E : Type 0} (S T : A → E → Type 0) → ((x : A) (e : E) → S x e → T x e) → (xs : List A) (es : List E) → AllZip S xs es → AllZip T xs es
zip_weaker S T f [] [] z = tt
zip_weaker S T f [] (e ∷ es) z = absurd z
zip_weaker S T f (x ∷ xs) [] z = absurd z
zip_weaker S T f (x ∷ xs) (e ∷ es) z = (f x e z.0, zip_weaker S T f xs es z.1)

pub zip_map : {A B E : Type 0} (f : A → B) (T : B → E → Type 0) (xs : List A) (es : List E) → AllZip (λ x e. T (f x) e) xs es → AllZip T (map f xs) es
zip_map f T [] [] z = tt
zip_map f T [] (e ∷ es) z = absurd z
zip_map f T (x ∷ xs) [] z = absurd z
zip_map f T (x ∷ xs) (e ∷ es) z = (z.0, zip_map f T xs es z.1)

pub zip_maps : {A B : Type 0} (f : A → B) (T : B → B → Type 0) (xs ys : List A) → AllZip (λ x y. T (f x) (f y)) xs ys → AllZip T (map f xs) (map f ys)
zip_maps f T [] [] z = tt
zip_maps f T [] (y ∷ ys) z = absurd z
zip_maps f T (x ∷ xs) [] z = absurd z
zip_maps f T (x ∷ xs) (y ∷ ys) z = (z.0, zip_maps f T xs ys z.1)

-- what a change of one entry makes of a list that stands beside
module _ {A E : Type 0} (S T : A → E → Type 0) (keeps : (x : A) (e : E) → S x e → T x e) (P : A → A → Type 0) (G : A → A → E → E → Type 0)
    (leads : (x y : A) (e : E) → P x y → S x e → (f : E) × T y f × G x y e f) where
  pub record Changed (n : ℕ) (xs ys : List A) (es : List E) : Type 0 where
    pub x : A
    pub y : A
    pub there : HoldsAt n (λ z. z ≡ x) xs
    pub here : HoldsAt n (λ z. z ≡ y) ys
    pub change : P x y
    pub exact : ChangesAt n (λ a b. (a ≡ x) × (b ≡ y)) xs ys
    pub after : List E
    pub zip : AllZip T ys after
    pub goes : ChangesAt n (λ e f. G x y e f) es after

  pub changed : (n : ℕ) (xs ys : List A) (es : List E) → ChangesAt n P xs ys → AllZip S xs es → Changed n xs ys es
  changed n [] ys es c z = absurd c
  changed zero (x ∷ xs) [] es c z = absurd c
  changed zero (x ∷ xs) (y ∷ ys) [] c z = absurd z
  changed zero (x ∷ xs) (y ∷ ys) (e ∷ es) c z =
      let l = leads x y e c.0 z.0 in
      record {
        x = x;
        y = y;
        there = refl;
        here = refl;
        change = c.0;
        exact = ((refl, refl), c.1);
        after = l.0 ∷ es;
        zip = (l.1, subst (λ l. AllZip T l es) (sym c.1) (zip_weaker S T keeps xs es z.1));
        goes = (l.2, refl);
      }
  changed (suc n) (x ∷ xs) [] es c z = absurd c
  changed (suc n) (x ∷ xs) (y ∷ ys) [] c z = absurd z
  changed (suc n) (x ∷ xs) (y ∷ ys) (e ∷ es) c z =
      let r = changed n xs ys es c.1 z.1 in
      record {
        x = r.x;
        y = r.y;
        there = r.there;
        here = r.here;
        change = r.change;
        exact = (c.0, r.exact);
        after = e ∷ r.after;
        zip = (subst (λ w. T w e) (sym c.0) (keeps x e z.0), r.zip);
        goes = (refl, r.goes);
      }

-- ---- names

pub same_self : (a : List ℕ) → same_name a a ≡ true
same_self a = go (same_name a a) refl where
  go : (b : Bool) → same_name a a ≡ b → b ≡ true
  go true is = refl
  go false is = absurd (other_text a a (sym is) refl)

pub differs : (a b : List ℕ) → a ≢ b → same_name a b ≡ false
differs a b ne = go (same_name a b) refl where
  go : (t : Bool) → same_name a b ≡ t → t ≡ false
  go true is = absurd (ne (same_text a b (sym is)))
  go false is = refl

pub is_same : (a b : List ℕ) → same_name a b ≡ true → a ≡ b
is_same a b e = same_text a b (sym e)

pub not_in_front : (names more : List (List ℕ)) (name : List ℕ) → NotIn (names ++ more) name → NotIn names name
not_in_front [] more name n = tt
not_in_front (m ∷ names) more name n = (n.0, not_in_front names more name n.1)

pub not_in_rest : (names more : List (List ℕ)) (name : List ℕ) → NotIn (names ++ more) name → NotIn more name
not_in_rest [] more name n = n
not_in_rest (m ∷ names) more name n = not_in_rest names more name n.1

pub not_both : (names : List (List ℕ)) (name : List ℕ) → NotIn names name → IsOneOf names name → ⊥
not_both [] name n one = one
not_both (m ∷ names) name n (inl e) = n.0 e
not_both (m ∷ names) name n (inr one) = not_both names name n.1 one

pub one_in_front : (names more : List (List ℕ)) (name : List ℕ) → IsOneOf names name → IsOneOf (names ++ more) name
one_in_front [] more name one = absurd one
one_in_front (m ∷ names) more name (inl e) = inl e
one_in_front (m ∷ names) more name (inr one) = inr (one_in_front names more name one)

pub one_in_rest : (names more : List (List ℕ)) (name : List ℕ) → IsOneOf more name → IsOneOf (names ++ more) name
one_in_rest [] more name one = one
one_in_rest (m ∷ names) more name one = inr (one_in_rest names more name one)

pub one_in_either : (names more : List (List ℕ)) (name : List ℕ) → IsOneOf (names ++ more) name → IsOneOf names name ⊎ IsOneOf more name
one_in_either [] more name one = inr one
one_in_either (m ∷ names) more name (inl e) = inl (inl e)
one_in_either (m ∷ names) more name (inr one) = go (one_in_either names more name one) where
  go : IsOneOf names name ⊎ IsOneOf more name → IsOneOf (m ∷ names) name ⊎ IsOneOf more name
  go (inl one) = inl (inr one)
  go (inr one) = inr one

pub distinct_front : (names more : List (List ℕ)) → AreDistinct (names ++ more) → AreDistinct names
distinct_front [] more d = tt
distinct_front (n ∷ names) more d = (not_in_front names more n d.0, distinct_front names more d.1)

-- a name behind these is none of these
pub apart_from : (names more : List (List ℕ)) (name : List ℕ) → AreDistinct (names ++ more) → IsOneOf more name → NotIn names name
apart_from [] more name d one = tt
apart_from (n ∷ names) more name d one =
    (λ e. not_both more n (not_in_rest names more n d.0) (subst (λ (m : List ℕ). IsOneOf more m) e one), apart_from names more name d.1 one)

-- ---- look-ups by name

module _ {X A : Type 0} (name_of : X → List ℕ) (has : X → A) where
  -- another name
  pub among_other : (disk : List ℕ) (P : X → X → Type 0) → ((x y : X) → P x y → (name_of x ≡ disk) × (name_of y ≡ disk)) → (n : ℕ) (xs ys : List X)
      → ChangesAt n P xs ys → (other : A) (name : List ℕ) → same_name name disk ≡ false → among name_of has ys other name ≡ among name_of has xs other name
  among_other disk P f n [] ys c other name away = absurd c
  among_other disk P f zero (x ∷ xs) [] c other name away = absurd c
  among_other disk P f zero (x ∷ xs) (y ∷ ys) c other name away =
      let is = f x y c.0 in
      ap (λ (b : Bool). cond b (has y) (among name_of has ys other name)) (ap (same_name name) is.1 ∙ away)
      ∙ ap (λ (l : List X). among name_of has l other name) c.1
      ∙ sym (ap (λ (b : Bool). cond b (has x) (among name_of has xs other name)) (ap (same_name name) is.0 ∙ away))
  among_other disk P f (suc n) (x ∷ xs) [] c other name away = absurd c
  among_other disk P f (suc n) (x ∷ xs) (y ∷ ys) c other name away = λ i.
      cond (same_name name (name_of (c.0 i))) (has (c.0 i)) (among_other disk P f n xs ys c.1 other name away i)

  -- a name that none of these has
  pub among_past : (xs : List X) (other : A) (name : List ℕ) → NotIn (map name_of xs) name → among name_of has xs other name ≡ other
  among_past [] other name n = refl
  among_past (x ∷ xs) other name n =
      ap (λ (b : Bool). cond b (has x) (among name_of has xs other name)) (differs name (name_of x) n.0) ∙ among_past xs other name n.1

  not_there : (n : ℕ) (xs : List X) (x : X) (name : List ℕ) → HoldsAt n (λ z. z ≡ x) xs → NotIn (map name_of xs) name → name ≢ name_of x
  not_there n [] x name h away = absurd h
  not_there zero (z ∷ xs) x name h away = λ e. away.0 (e ∙ sym (ap name_of h))
  not_there (suc n) (z ∷ xs) x name h away = not_there n xs x name h away.1

  -- the name of one of these
  pub among_there : (n : ℕ) (xs : List X) (x : X) (other : A) → HoldsAt n (λ z. z ≡ x) xs → AreDistinct (map name_of xs)
      → among name_of has xs other (name_of x) ≡ has x
  among_there n [] x other h d = absurd h
  among_there zero (z ∷ xs) x other h d =
      ap (λ (w : X). cond (same_name (name_of x) (name_of w)) (has w) (among name_of has xs other (name_of x))) h
      ∙ ap (λ (b : Bool). cond b (has x) (among name_of has xs other (name_of x))) (same_self (name_of x))
  among_there (suc n) (z ∷ xs) x other h d =
      ap (λ (b : Bool). cond b (has z) (among name_of has xs other (name_of x)))
      (differs (name_of x) (name_of z) (λ e. not_there n xs x (name_of z) h d.0 (sym e)))
      ∙ among_there n xs x other h d.1

  -- two lists with the same names, for a name of which this holds
  pub among_zip_where : {Y B : Type 0} (Of : List ℕ → Type 0) (name_in : Y → List ℕ) (got : Y → B) (R : A → B → Type 0) (xs : List X) (ys : List Y)
      → AllZip (λ x y. (name_in y ≡ name_of x) × (Of (name_of x) → R (has x) (got y))) xs ys → (other : A) (more : B) (name : List ℕ) → Of name
      → (NotIn (map name_of xs) name → R other more) → R (among name_of has xs other name) (among name_in got ys more name)
  among_zip_where Of name_in got R [] [] z other more name its r = r tt
  among_zip_where Of name_in got R [] (y ∷ ys) z other more name its r = absurd z
  among_zip_where Of name_in got R (x ∷ xs) [] z other more name its r = absurd z
  among_zip_where Of name_in got R (x ∷ xs) (y ∷ ys) z other more name its r =
      subst (λ (b : Bool). R (cond (same_name name (name_of x)) (has x) (among name_of has xs other name)) (cond b (got y) (among name_in got ys more name)))
      (ap (same_name name) (sym z.0.0))
      (go (same_name name (name_of x)) refl (λ ne. among_zip_where Of name_in got R xs ys z.1 other more name its (λ n. r (ne, n))))
    where
      other_name : name ≡ name_of x → same_name name (name_of x) ≡ false → ⊥
      other_name e away = let bad : true ≡ false = sym (same_self (name_of x)) ∙ ap (λ (m : List ℕ). same_name m (name_of x)) (sym e) ∙ away in cc

      go : (b : Bool) → same_name name (name_of x) ≡ b
          → (name ≢ name_of x → R (among name_of has xs other name) (among name_in got ys more name))
          → R (cond b (has x) (among name_of has xs other name)) (cond b (got y) (among name_in got ys more name))
      go true is more_of = z.0.1 (subst Of (is_same name (name_of x) is) its)
      go false is more_of = more_of (λ e. other_name e is)

  -- for any name
  pub among_zip : {Y B : Type 0} (name_in : Y → List ℕ) (got : Y → B) (R : A → B → Type 0) (xs : List X) (ys : List Y)
      → AllZip (λ x y. (name_in y ≡ name_of x) × R (has x) (got y)) xs ys → (other : A) (more : B) (name : List ℕ)
      → (NotIn (map name_of xs) name → R other more) → R (among name_of has xs other name) (among name_in got ys more name)
  among_zip {Y} name_in got R xs ys z other more name r = among_zip_where (λ m. Unit {0}) name_in got R xs ys
      (zip_weaker (λ (x : X) (y : Y). (name_in y ≡ name_of x) × R (has x) (got y))
      (λ (x : X) (y : Y). (name_in y ≡ name_of x) × (Unit {0} → R (has x) (got y))) (λ x y h. (h.0, λ any. h.1)) xs ys z)
      other more name tt r

-- each finds itself, whatever else there is by name
module _ {X A : Type 0} (name_of : X → List ℕ) (has : X → A) (other : List ℕ → A) where
  past_one : (x : X) (rest all : List X) → NotIn (map name_of rest) (name_of x)
      → AllByRecursion (λ z. among name_of has all (other (name_of z)) (name_of z) ≡ has z) rest
      → AllByRecursion (λ z. cond (same_name (name_of z) (name_of x)) (has x) (among name_of has all (other (name_of z)) (name_of z)) ≡ has z) rest
  past_one x [] all n each = tt
  past_one x (z ∷ rest) all n each = (
    ap (λ (b : Bool). cond b (has x) (among name_of has all (other (name_of z)) (name_of z))) (differs (name_of z) (name_of x) (λ e. n.0 (sym e))) ∙ each.0,
    past_one x rest all n.1 each.1,
  )

  all_found : (xs : List X) → AreDistinct (map name_of xs) → AllByRecursion (λ z. among name_of has xs (other (name_of z)) (name_of z) ≡ has z) xs
  all_found [] d = tt
  all_found (x ∷ xs) d = (
    ap (λ (b : Bool). cond b (has x) (among name_of has xs (other (name_of x)) (name_of x))) (same_self (name_of x)),
    past_one x xs xs d.0 (all_found xs d.1),
  )

pub each_found : {X A : Type 0} (name_of : X → List ℕ) (has : X → A) (xs : List X) (other : List ℕ → A) → AreDistinct (map name_of xs)
    → AllByRecursion (λ z. among name_of has xs (other (name_of z)) (name_of z) ≡ has z) xs
each_found name_of has xs other d = all_found name_of has other xs d

-- what is said of the entry with this number
pub holds_both : {A : Type 0} (P : A → Type 0) (n : ℕ) (xs : List A) (x : A) → HoldsAt n P xs → HoldsAt n (λ z. z ≡ x) xs → P x
holds_both P n [] x p h = absurd p
holds_both P zero (z ∷ xs) x p h = subst P h p
holds_both P (suc n) (z ∷ xs) x p h = holds_both P n xs x p h

pub holds_within : {A : Type 0} (P : A → Type 0) (n : ℕ) (xs : List A) → HoldsAt n P xs → n < length xs
holds_within P n [] p = absurd p
holds_within P zero (z ∷ xs) p = omega arith
holds_within P (suc n) (z ∷ xs) p = let lt = holds_within P n xs p in omega (arith, lt)

pub holds_get : {A : Type 0} (P : A → Type 0) (n : ℕ) (xs : List A) (x : A) → n < length xs → x ≡ get_or xs n x → P x → HoldsAt n P xs
holds_get P n [] x lt is p = absurd (omega (arith, lt))
holds_get P zero (z ∷ xs) x lt is p = subst P is p
holds_get P (suc n) (z ∷ xs) x lt is p = holds_get P n xs x (omega (arith, lt)) is p

-- each entry holds this
pub all_at : {A : Type 0} (P : A → Type 0) (n : ℕ) (xs : List A) (x : A) → AllByRecursion P xs → n < length xs → x ≡ get_or xs n x → P x
all_at P n [] x all lt is = absurd (omega (arith, lt))
all_at P zero (z ∷ xs) x all lt is = subst P (sym is) all.0
all_at P (suc n) (z ∷ xs) x all lt is = all_at P n xs x all.1 (omega (arith, lt)) is

-- ---- one after another

-- so many from the front went by this, and those behind them are as they were
abbrev pub DoneTo : {A : Type 0} → ℕ → (A → A → Type 0) → List A → List A → Type 0
DoneTo zero R xs ys = ys ≡ xs
DoneTo (suc n) R [] ys = ⊥
DoneTo (suc n) R (x ∷ xs) [] = ⊥
DoneTo (suc n) R (x ∷ xs) (y ∷ ys) = R x y × DoneTo n R xs ys

pub done_on : {A : Type 0} (R : A → A → Type 0) (n : ℕ) (xs ys : List A) (y z : A) → DoneTo n R xs ys → n < length ys → y ≡ get_or ys n y → R y z
    → DoneTo (suc n) R xs (set ys n z)
done_on R zero [] [] y z d lt is r = absurd (omega (arith, lt))
done_on R zero [] (w ∷ ys) y z d lt is r = absurd (let bad : w ∷ ys ≡ [] = d in cc)
done_on R zero (x ∷ xs) [] y z d lt is r = absurd (omega (arith, lt))
done_on R zero (x ∷ xs) (w ∷ ys) y z d lt is r =
    let head : w ≡ x = cc in
    let tail : ys ≡ xs = cc in
    (subst (λ (v : _). R v z) (is ∙ head) r, tail)
done_on R (suc n) [] ys y z d lt is r = absurd d
done_on R (suc n) (x ∷ xs) [] y z d lt is r = absurd d
done_on R (suc n) (x ∷ xs) (w ∷ ys) y z d lt is r = (d.0, done_on R n xs ys y z d.1 (omega (arith, lt)) is r)

pub done_all : {A : Type 0} (R : A → A → Type 0) (n : ℕ) (xs ys : List A) → DoneTo n R xs ys → (n < length ys → ⊥) → AllZip R xs ys
done_all R zero [] [] d past = tt
done_all R zero [] (w ∷ ys) d past = absurd (let bad : w ∷ ys ≡ [] = d in cc)
done_all R zero (x ∷ xs) [] d past = absurd (let bad : [] ≡ x ∷ xs = d in cc)
done_all R zero (x ∷ xs) (w ∷ ys) d past = absurd (past (omega arith))
done_all R (suc n) [] ys d past = absurd d
done_all R (suc n) (x ∷ xs) [] d past = absurd d
done_all R (suc n) (x ∷ xs) (w ∷ ys) d past = (d.0, done_all R n xs ys d.1 (λ lt. past (omega (arith, lt))))

-- one behind them is as it was
pub done_at : {A : Type 0} (R : A → A → Type 0) (Q : A → Type 0) (n : ℕ) (xs ys : List A) (y : A) → DoneTo n R xs ys → AllByRecursion Q xs → n < length ys
    → y ≡ get_or ys n y → Q y
done_at R Q zero xs ys y d all lt is = all_at Q zero ys y (subst (λ l. AllByRecursion Q l) (sym d) all) lt is
done_at R Q (suc n) [] ys y d all lt is = absurd d
done_at R Q (suc n) (x ∷ xs) [] y d all lt is = absurd d
done_at R Q (suc n) (x ∷ xs) (w ∷ ys) y d all lt is = done_at R Q n xs ys y d.1 all.1 (omega (arith, lt)) is

-- ---- a look-up of a place

pub record Looks {X : Type 0} (name_of : X → List ℕ) (name : List ℕ) (all : List X) (place : ℕ) (rest : List X) : Type 0 where
  pub at : (k : ℕ) → HoldsAt k (λ z. name_of z ≡ name) rest → HoldsAt (k + place) (λ z. name_of z ≡ name) all
  pub past : NotIn (map name_of rest) name → NotIn (map name_of all) name
  pub counted : place + length rest ≡ length all

module _ {X : Type 0} (name_of : X → List ℕ) (name : List ℕ) (all : List X) where
  pub looks_first : Looks name_of name all 0 all
  looks_first = record {
    at = λ k h. subst (λ (n : ℕ). HoldsAt n (λ z. name_of z ≡ name) all) (let e : k ≡ k + 0 = omega arith in e) h;
    past = λ n. n;
    counted = omega arith;
  }

  pub looks_on : (place : ℕ) (x : X) (rest : List X) → Looks name_of name all place (x ∷ rest) → name ≢ name_of x → Looks name_of name all (place + 1) rest
  looks_on place x rest l ne = record {
    at = λ k h. subst (λ (n : ℕ). HoldsAt n (λ z. name_of z ≡ name) all) (let e : suc k + place ≡ k + (place + 1) = omega arith in e) (l.at (suc k) h);
    past = λ n. l.past (ne, n);
    counted = (let e = l.counted in omega (arith, e));
  }

  pub looks_found : (place : ℕ) (x : X) (rest : List X) → Looks name_of name all place (x ∷ rest) → name_of x ≡ name → HoldsAt place (λ z. name_of z ≡ name) all
  looks_found place x rest l is =
      subst (λ (n : ℕ). HoldsAt n (λ z. name_of z ≡ name) all) (let e : 0 + place ≡ place = omega arith in e) (l.at 0 is)

  pub looks_none : (place : ℕ) → Looks name_of name all place [] → NotIn (map name_of all) name
  looks_none place l = l.past tt
