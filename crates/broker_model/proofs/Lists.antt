-- Lists of which one entry changes, and lists by their entries.
use Rattle.std.proofs.Common.{◌≡◌, ◌≢◌, ◌⊎◌, ◌<◌, arith, length, inl, inr, refl, sym, ap, ◌∙◌, subst, ℕ, zero, suc, List, [], ◌∷◌, ◌++◌, map, Option, Some, None}
use Rattle.std.specs.Prelude.{slice_index_or}
use Rattle.std.specs.List.{AllByRecursion, AllZip, Contains}
use Rattle.broker_model.specs.Hosted.{ChangesAt, HoldsAt}

-- the change says more than that
pub changes_so : {A : Type 0} (n : ℕ) (P Q : A → A → Type 0) → ((x y : A) → P x y → Q x y) → (xs ys : List A) → ChangesAt n P xs ys → ChangesAt n Q xs ys
changes_so n P Q f [] ys c = absurd c
changes_so zero P Q f (x ∷ xs) [] c = absurd c
changes_so zero P Q f (x ∷ xs) (y ∷ ys) c = (f x y c.0, c.1)
changes_so (suc n) P Q f (x ∷ xs) [] c = absurd c
changes_so (suc n) P Q f (x ∷ xs) (y ∷ ys) c = (c.0, changes_so n P Q f xs ys c.1)

-- two changes of one entry
pub changes_once : {A : Type 0} (n : ℕ) (P Q : A → A → Type 0) → ((x y z : A) → P x y → Q x z → y ≡ z) → (xs ys zs : List A) → ChangesAt n P xs ys
    → ChangesAt n Q xs zs → ys ≡ zs
changes_once n P Q f [] ys zs c d = absurd c
changes_once zero P Q f (x ∷ xs) [] zs c d = absurd c
changes_once zero P Q f (x ∷ xs) (y ∷ ys) [] c d = absurd d
changes_once zero P Q f (x ∷ xs) (y ∷ ys) (z ∷ zs) c d = λ i. f x y z c.0 d.0 i ∷ (c.1 ∙ sym d.1) i
changes_once (suc n) P Q f (x ∷ xs) [] zs c d = absurd c
changes_once (suc n) P Q f (x ∷ xs) (y ∷ ys) [] c d = absurd d
changes_once (suc n) P Q f (x ∷ xs) (y ∷ ys) (z ∷ zs) c d = λ i. (c.0 ∙ sym d.0) i ∷ changes_once n P Q f xs ys zs c.1 d.1 i

-- what two changes of one entry say together
pub changes_both : {A C : Type 0} (n : ℕ) (P Q : A → A → Type 0) → ((x y z : A) → P x y → Q x z → C) → (xs ys zs : List A) → ChangesAt n P xs ys
    → ChangesAt n Q xs zs → C
changes_both n P Q f [] ys zs c d = absurd c
changes_both zero P Q f (x ∷ xs) [] zs c d = absurd c
changes_both zero P Q f (x ∷ xs) (y ∷ ys) [] c d = absurd d
changes_both zero P Q f (x ∷ xs) (y ∷ ys) (z ∷ zs) c d = f x y z c.0 d.0
changes_both (suc n) P Q f (x ∷ xs) [] zs c d = absurd c
changes_both (suc n) P Q f (x ∷ xs) (y ∷ ys) [] c d = absurd d
changes_both (suc n) P Q f (x ∷ xs) (y ∷ ys) (z ∷ zs) c d = changes_both n P Q f xs ys zs c.1 d.1

-- the entry that changes
pub change_of : {A C : Type 0} (n : ℕ) (P : A → A → Type 0) → ((x y : A) → P x y → C) → (xs ys : List A) → ChangesAt n P xs ys → C
change_of n P f [] ys c = absurd c
change_of zero P f (x ∷ xs) [] c = absurd c
change_of zero P f (x ∷ xs) (y ∷ ys) c = f x y c.0
change_of (suc n) P f (x ∷ xs) [] c = absurd c
change_of (suc n) P f (x ∷ xs) (y ∷ ys) c = change_of n P f xs ys c.1

-- what the change leaves of each entry stands as it was
pub maps_stay : {A B : Type 0} (f : A → B) (n : ℕ) (P : A → A → Type 0) → ((x y : A) → P x y → f y ≡ f x) → (xs ys : List A) → ChangesAt n P xs ys
    → map f ys ≡ map f xs
maps_stay f n P keeps [] ys c = absurd c
maps_stay f zero P keeps (x ∷ xs) [] c = absurd c
maps_stay f zero P keeps (x ∷ xs) (y ∷ ys) c = λ i. keeps x y c.0 i ∷ map f (c.1 i)
maps_stay f (suc n) P keeps (x ∷ xs) [] c = absurd c
maps_stay f (suc n) P keeps (x ∷ xs) (y ∷ ys) c = λ i. f (c.0 i) ∷ maps_stay f n P keeps xs ys c.1 i

-- ---- entries

-- the entry with this number, counted from 0
abbrev pub entry_at : {A : Type 0} → ℕ → List A → Option A
entry_at n [] = None
entry_at zero (x ∷ xs) = Some x
entry_at (suc n) (x ∷ xs) = entry_at n xs

pub some_same : {A : Type 0} (a b : A) → ◌≡◌ {A = Option A} (Some a) (Some b) → a ≡ b
some_same a b e = cc

pub none_not : {A : Type 0} (a : A) → ◌≡◌ {A = Option A} None (Some a) → ⊥
none_not a e = cc

pub holds_entry : {A : Type 0} (n : ℕ) (Q : A → Type 0) (xs : List A) → HoldsAt n Q xs → (x : A) × (entry_at n xs ≡ Some x) × Q x
holds_entry n Q [] h = absurd h
holds_entry zero Q (x ∷ xs) h = (x, refl, h)
holds_entry (suc n) Q (x ∷ xs) h = holds_entry n Q xs h

pub entry_holds : {A : Type 0} (n : ℕ) (Q : A → Type 0) (xs : List A) (x : A) → entry_at n xs ≡ Some x → Q x → HoldsAt n Q xs
entry_holds n Q [] x e q = absurd (none_not x e)
entry_holds zero Q (y ∷ ys) x e q = subst Q (sym (some_same y x e)) q
entry_holds (suc n) Q (y ∷ ys) x e q = entry_holds n Q ys x e q

-- what is said of the entry with this number holds of this one
pub holds_of : {A : Type 0} (n : ℕ) (Q : A → Type 0) (xs : List A) (x : A) → entry_at n xs ≡ Some x → HoldsAt n Q xs → Q x
holds_of n Q xs x e h =
    let f = holds_entry n Q xs h in
    subst Q (some_same f.0 x (sym f.1 ∙ e)) f.2

pub all_entry : {A : Type 0} (n : ℕ) (Q : A → Type 0) (xs : List A) (x : A) → entry_at n xs ≡ Some x → AllByRecursion Q xs → Q x
all_entry n Q [] x e all = absurd (none_not x e)
all_entry zero Q (y ∷ ys) x e all = subst Q (some_same y x e) all.0
all_entry (suc n) Q (y ∷ ys) x e all = all_entry n Q ys x e all.1

-- the entries with this number in two lists, if there are such, go by P
pub record IsChanged {A : Type 0} (n : ℕ) (P : A → A → Type 0) (xs ys : List A) : Type 0 where
  pub old : A
  pub new : A
  pub was : entry_at n xs ≡ Some old
  pub is : entry_at n ys ≡ Some new
  pub goes : P old new

pub changed : {A : Type 0} (n : ℕ) (P : A → A → Type 0) (xs ys : List A) → ChangesAt n P xs ys → IsChanged n P xs ys
changed n P [] ys c = absurd c
changed zero P (x ∷ xs) [] c = absurd c
changed zero P (x ∷ xs) (y ∷ ys) c = record { old = x; new = y; was = refl; is = refl; goes = c.0 }
changed (suc n) P (x ∷ xs) [] c = absurd c
changed (suc n) P (x ∷ xs) (y ∷ ys) c =
    let r = changed n P xs ys c.1 in
    record { old = r.old; new = r.new; was = r.was; is = r.is; goes = r.goes }

pub unchanged : {A : Type 0} (n m : ℕ) (P : A → A → Type 0) (xs ys : List A) → m ≢ n → ChangesAt n P xs ys → entry_at m ys ≡ entry_at m xs
unchanged n m P [] ys ne c = absurd c
unchanged zero m P (x ∷ xs) [] ne c = absurd c
unchanged zero zero P (x ∷ xs) (y ∷ ys) ne c = absurd (ne refl)
unchanged zero (suc m) P (x ∷ xs) (y ∷ ys) ne c = ap (entry_at m) c.1
unchanged (suc n) m P (x ∷ xs) [] ne c = absurd c
unchanged (suc n) zero P (x ∷ xs) (y ∷ ys) ne c = ap (λ z. Some z) c.0
unchanged (suc n) (suc m) P (x ∷ xs) (y ∷ ys) ne c = unchanged n m P xs ys (λ e. ne (ap (λ k. suc k) e)) c.1

pub same_or_not : (m n : ℕ) → (m ≡ n) ⊎ (m ≢ n)
same_or_not zero zero = inl refl
same_or_not zero (suc n) = inr (λ e. let clash : ⊥ = cc in clash)
same_or_not (suc m) zero = inr (λ e. let clash : ⊥ = cc in clash)
same_or_not (suc m) (suc n) = go (same_or_not m n) where
  go : (m ≡ n) ⊎ (m ≢ n) → (suc m ≡ suc n) ⊎ (suc m ≢ suc n)
  go (inl e) = inl (ap (λ k. suc k) e)
  go (inr ne) = inr (λ e. ne (let same : m ≡ n = cc in same))

-- both lists have no entry with this number, or one each that go so
abbrev pub Both : {A : Type 0} → ℕ → (A → A → Type 0) → List A → List A → Type 0
Both n P xs ys = ((entry_at n xs ≡ None) × (entry_at n ys ≡ None)) ⊎ IsChanged n P xs ys

pub zip_both : {A : Type 0} (n : ℕ) (P : A → A → Type 0) (xs ys : List A) → AllZip P xs ys → Both n P xs ys
zip_both n P [] [] all = inl (refl, refl)
zip_both n P [] (y ∷ ys) all = absurd all
zip_both n P (x ∷ xs) [] all = absurd all
zip_both zero P (x ∷ xs) (y ∷ ys) all = inr (record { old = x; new = y; was = refl; is = refl; goes = all.0 })
zip_both (suc n) P (x ∷ xs) (y ∷ ys) all = go (zip_both n P xs ys all.1) where
  go : Both n P xs ys → Both (suc n) P (x ∷ xs) (y ∷ ys)
  go (inl none) = inl none
  go (inr r) = inr (record { old = r.old; new = r.new; was = r.was; is = r.is; goes = r.goes })

pub same_both : {A : Type 0} (n : ℕ) (P : A → A → Type 0) (xs ys : List A) → ((x : A) → P x x) → entry_at n ys ≡ entry_at n xs → Both n P xs ys
same_both n P xs ys stays is = go (entry_at n xs) refl where
  go : (o : Option _) → entry_at n xs ≡ o → Both n P xs ys
  go None none = inl (none, is ∙ none)
  go (Some x) some = inr (record { old = x; new = x; was = some; is = is ∙ some; goes = stays x })

pub both_so : {A : Type 0} (n : ℕ) (P Q : A → A → Type 0) (xs ys : List A) → ((x y : A) → entry_at n ys ≡ Some y → P x y → Q x y) → Both n P xs ys → Both n Q xs ys
both_so n P Q xs ys f (inl none) = inl none
both_so n P Q xs ys f (inr r) = inr (record { old = r.old; new = r.new; was = r.was; is = r.is; goes = f r.old r.new r.is r.goes })

-- from the entry of the one list to that of the other
pub forth : {A : Type 0} (n : ℕ) (P : A → A → Type 0) (xs ys : List A) (x : A) → Both n P xs ys → entry_at n xs ≡ Some x → (y : A) × (entry_at n ys ≡ Some y) × P x y
forth n P xs ys x (inl none) e = absurd (none_not x (sym none.0 ∙ e))
forth n P xs ys x (inr r) e = (r.new, r.is, subst (λ (z : _). P z r.new) (some_same r.old x (sym r.was ∙ e)) r.goes)

pub back : {A : Type 0} (n : ℕ) (P : A → A → Type 0) (xs ys : List A) (y : A) → Both n P xs ys → entry_at n ys ≡ Some y → (x : A) × (entry_at n xs ≡ Some x) × P x y
back n P xs ys y (inl none) e = absurd (none_not y (sym none.1 ∙ e))
back n P xs ys y (inr r) e = (r.old, r.was, subst (λ (z : _). P r.old z) (some_same r.new y (sym r.is ∙ e)) r.goes)

-- ---- what is in a list

-- the element is one of the list's
abbrev pub IsOf : {A : Type 0} → List A → A → Type 0
IsOf [] x = ⊥
IsOf (y ∷ ys) x = (y ≡ x) ⊎ IsOf ys x

pub of_front : {A : Type 0} (xs ys : List A) (x : A) → IsOf xs x → IsOf (xs ++ ys) x
of_front [] ys x is = absurd is
of_front (z ∷ xs) ys x (inl e) = inl e
of_front (z ∷ xs) ys x (inr e) = inr (of_front xs ys x e)

pub of_rest : {A : Type 0} (xs ys : List A) (x : A) → IsOf ys x → IsOf (xs ++ ys) x
of_rest [] ys x is = is
of_rest (z ∷ xs) ys x is = inr (of_rest xs ys x is)

pub of_all : {A : Type 0} (P : A → Type 0) (xs : List A) (x : A) → AllByRecursion P xs → IsOf xs x → P x
of_all P [] x all is = absurd is
of_all P (z ∷ xs) x all (inl e) = subst P e all.0
of_all P (z ∷ xs) x all (inr e) = of_all P xs x all.1 e

-- the same by places
pub contains_front : {A : Type 0} (x y : A) (xs : List A) → x ≡ y → Contains (x ∷ xs) y
contains_front x y xs e = (0, omega arith, e)

pub contains_rest : {A : Type 0} (x y : A) (xs : List A) → Contains xs y → Contains (x ∷ xs) y
contains_rest x y xs h = (suc h.0, (let lt = h.1 in omega (arith, lt)), h.2)

pub contains_of : {A : Type 0} (xs : List A) (x : A) → IsOf xs x → Contains xs x
contains_of [] x is = absurd is
contains_of (y ∷ xs) x (inl e) = contains_front y x xs e
contains_of (y ∷ xs) x (inr is) = contains_rest y x xs (contains_of xs x is)

pub of_contains : {A : Type 0} (xs : List A) (x : A) → Contains xs x → IsOf xs x
of_contains xs x c = at_place xs c.0 c.1 c.2 where
  at_place : (xs : List _) (k : ℕ) → k < length xs → slice_index_or xs k x ≡ x → IsOf xs x
  at_place [] k lt is = absurd (let clash : ⊥ = omega (arith, lt) in clash)
  at_place (y ∷ xs) zero lt is = inl is
  at_place (y ∷ xs) (suc k) lt is = inr (at_place xs k (omega (arith, lt)) is)
