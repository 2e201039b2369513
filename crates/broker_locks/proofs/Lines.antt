-- Rows of passes, one of each lock.
use Rattle.std.proofs.Common.{◌≡◌, inl, inr, ◌+◌, ◌≤◌, ℕ, zero, suc, List, [], ◌∷◌, ◌++◌, ◌==◌, true, refl, sym, ap, ◌∙◌, subst, arith, length, map, get_or, set}
use Rattle.std.proofs.lemmas.Bool.Decides.{nat_tests}
use Rattle.std.specs.List.{AllByRecursion, AllZip}
use Rattle.shard_lock.specs.Passes.{LockParts, PassParts, AreNew, joined, passes_of}
use Rattle.shard_lock.specs.declared.shard.Entry.{Entry}
use Rattle.broker_shards.specs.Hosts.{Host}
use Rattle.broker_shards.specs.declared.foreign.ForeignEvent.{ForeignEvent}
use Rattle.broker_shards.specs.declared.foreign.ForeignHost.{ForeignHost}
use Rattle.broker_shards.specs.declared.members.MembersEvent.{MembersEvent}
use Rattle.broker_shards.specs.declared.members.MembersHost.{MembersHost}
use Rattle.broker_shards.specs.declared.part.PartEvent.{PartEvent}
use Rattle.broker_locks.specs.Rows.{AreEnded, Ends, EndsBy, IsAlone, IsNew, IsOfOne, IsRow, IsUnused, RowOf, StandsAlone, StandsAmong, StandsFor, foreign_in, members_in, parts_in}
use Rattle.broker_locks.specs.Shared.{MembersAnswer, PartAnswer, PassesParts, SharedParts, StateAnswer}

module _ {A : Type 0} (P : A → Type 0) where
  pub all_snoc : (xs : List A) (x : A) → AllByRecursion P xs → P x → AllByRecursion P (xs ++ x ∷ [])
  all_snoc [] x p q = (q, tt)
  all_snoc (y ∷ xs) x p q = (p.0, all_snoc xs x p.1 q)

  pub all_then : (xs ys : List A) → AllByRecursion P xs → AllByRecursion P ys → AllByRecursion P (xs ++ ys)
  all_then [] ys p q = q
  all_then (x ∷ xs) ys p q = (p.0, all_then xs ys p.1 q)

  pub all_front : (xs : List A) (x : A) → AllByRecursion P (xs ++ x ∷ []) → AllByRecursion P xs
  all_front [] x p = tt
  all_front (y ∷ xs) x p = (p.0, all_front xs x p.1)

  pub all_rest : (xs ys : List A) → AllByRecursion P (xs ++ ys) → AllByRecursion P ys
  all_rest [] ys p = p
  all_rest (x ∷ xs) ys p = all_rest xs ys p.1

  pub all_last : (xs : List A) (x : A) → AllByRecursion P (xs ++ x ∷ []) → P x
  all_last [] x p = p.0
  all_last (y ∷ xs) x p = all_last xs x p.1

pub all_weaker : {A : Type 0} (P Q : A → Type 0) → ((x : A) → P x → Q x) → (xs : List A) → AllByRecursion P xs → AllByRecursion Q xs
all_weaker P Q f [] p = tt
all_weaker P Q f (x ∷ xs) p = (f x p.0, all_weaker P Q f xs p.1)

module _ {A B : Type 0} (R : A → B → Type 0) where
  pub zip_snoc : (xs : List A) (ys : List B) (x : A) (y : B) → AllZip R xs ys → R x y → AllZip R (xs ++ x ∷ []) (ys ++ y ∷ [])
  zip_snoc [] [] x y p r = (r, tt)
  zip_snoc [] (w ∷ ys) x y p r = absurd p
  zip_snoc (z ∷ xs) [] x y p r = absurd p
  zip_snoc (z ∷ xs) (w ∷ ys) x y p r = (p.0, zip_snoc xs ys x y p.1 r)

  pub zip_length : (xs : List A) (ys : List B) → AllZip R xs ys → length xs ≡ length ys
  zip_length [] [] p = refl
  zip_length [] (y ∷ ys) p = absurd p
  zip_length (x ∷ xs) [] p = absurd p
  zip_length (x ∷ xs) (y ∷ ys) p = ap suc (zip_length xs ys p.1)

module _ {S E A : Type 0} where
  -- ---- a pass among those that were given

  pub new_passes : (lock : LockParts S) (n : ℕ) (ps : List (PassParts S E A)) → AreNew lock n ps → AllByRecursion (IsNew lock) ps
  new_passes lock n [] p = tt
  new_passes lock n (q ∷ ps) p = ((n, p.0), new_passes lock (n + 1) ps p.1)

  new_alone : (lock : LockParts S) (q : PassParts S E A) → IsNew lock q → StandsAlone lock q
  new_alone lock q (n, is) = (((ap (λ x. x.table) is, ap (λ x. x.first) is), ap (λ x. x.stands) is), ap (λ x. x.joined) is)

  news_alone : (ls : List (LockParts S)) (ps : List (PassParts S E A)) → AllZip IsNew ls ps → AllZip StandsAlone ls ps
  news_alone [] [] z = tt
  news_alone [] (p ∷ ps) z = absurd z
  news_alone (l ∷ ls) [] z = absurd z
  news_alone (l ∷ ls) (p ∷ ps) z = (new_alone l p z.0, news_alone ls ps z.1)

  news_unused : (ls : List (LockParts S)) (ps : List (PassParts S E A)) → AllZip IsNew ls ps → AllByRecursion (λ (p : PassParts S E A). p.own ≡ []) ps
  news_unused [] [] z = tt
  news_unused [] (p ∷ ps) z = absurd z
  news_unused (l ∷ ls) [] z = absurd z
  news_unused (l ∷ ls) (p ∷ ps) z = (ap (λ x. x.own) z.0.1, news_unused ls ps z.1)

  one_behind : (more given : List (PassParts S E A)) (lock : LockParts S) (own : ℕ × List (Entry E A)) → IsOfOne given lock own → IsOfOne (more ++ given) lock own
  one_behind [] given lock own o = o
  one_behind (m ∷ more) given lock own o = inr (one_behind more given lock own o)

  among_behind : (more given : List (PassParts S E A)) (n : ℕ) (lock : LockParts S) (p : PassParts S E A) → StandsAmong given n lock p → StandsAmong (more ++ given) n lock p
  among_behind more given n lock p s =
      (s.0, all_weaker (IsOfOne given lock) (IsOfOne (more ++ given) lock) (one_behind more given lock) (passes_of p) s.1)

  zip_behind : (more given : List (PassParts S E A)) (n : ℕ) (ls : List (LockParts S)) (ps : List (PassParts S E A)) → AllZip (StandsAmong given n) ls ps
      → AllZip (StandsAmong (more ++ given) n) ls ps
  zip_behind more given n [] [] z = tt
  zip_behind more given n [] (p ∷ ps) z = absurd z
  zip_behind more given n (l ∷ ls) [] z = absurd z
  zip_behind more given n (l ∷ ls) (p ∷ ps) z = (among_behind more given n l p z.0, zip_behind more given n ls ps z.1)

  -- a pass that stands alone is the first one of these
  among_first : (given : List (PassParts S E A)) (lock : LockParts S) (p : PassParts S E A) → StandsAlone lock p → StandsAmong (p ∷ given) 1 lock p
  among_first given lock p s =
      (s.0, (inl (s.0.0, refl), subst (λ (x : List (ℕ × List (Entry E A))). AllByRecursion (IsOfOne (p ∷ given) lock) x) (sym s.1) tt))

  zip_among : (given : List (PassParts S E A)) (ls : List (LockParts S)) (ps : List (PassParts S E A)) → AllZip StandsAlone ls ps
      → AllZip (StandsAmong (ps ++ given) 1) ls ps
  zip_among given [] [] z = tt
  zip_among given [] (p ∷ ps) z = absurd z
  zip_among given (l ∷ ls) [] z = absurd z
  zip_among given (l ∷ ls) (p ∷ ps) z =
      (among_first (ps ++ given) l p z.0, zip_behind (p ∷ []) (ps ++ given) 1 ls ps (zip_among given ls ps z.1))

  pub among_for : (given : List (PassParts S E A)) (n : ℕ) (ls : List (LockParts S)) (ps : List (PassParts S E A)) → AllZip (StandsAmong given n) ls ps
      → AllZip (StandsFor n) ls ps
  among_for given n [] [] z = tt
  among_for given n [] (p ∷ ps) z = absurd z
  among_for given n (l ∷ ls) [] z = absurd z
  among_for given n (l ∷ ls) (p ∷ ps) z = (z.0.0, among_for given n ls ps z.1)

  pub joined_among : (given : List (PassParts S E A)) (n : ℕ) (l : LockParts S) (p q : PassParts S E A) → StandsAmong given n l p → StandsAmong given 1 l q
      → StandsAmong given (n + 1) l (joined p q)
  joined_among given n l p q a b = ((a.0.0, λ i. a.0.1 i + b.0.1 i), (a.1.0, all_then (IsOfOne given l) p.joined (passes_of q) a.1.1 b.1))

  -- locks that are closed with passes among these
  pub ended_among : (acts : S → E → A → S → Type 0) (given : List (PassParts S E A)) (n : ℕ) (ls : List (LockParts S)) (ps : List (PassParts S E A)) (hs : List S)
      → AreEnded acts ls ps hs → AllZip (StandsAmong given n) ls ps → AllZip (Ends acts given) ls hs
  ended_among acts given n [] ps [] e z = tt
  ended_among acts given n [] ps (h ∷ hs) e z = absurd (cc e)
  ended_among acts given n (l ∷ ls) [] hs e z = absurd e
  ended_among acts given n (l ∷ ls) (p ∷ ps) [] e z = absurd e
  ended_among acts given n (l ∷ ls) (p ∷ ps) (h ∷ hs) e z =
      (record { pass = p; leads = e.0.leads; account = e.0.account; of = z.0.1 }, ended_among acts given n ls ps hs e.1 z.1)

  pub ended_more : (acts : S → E → A → S → Type 0) (ls : List (LockParts S)) (ps more : List (PassParts S E A)) (hs : List S) → AreEnded acts ls ps hs
      → AreEnded acts ls (ps ++ more) hs
  ended_more acts [] ps more hs e = e
  ended_more acts (l ∷ ls) [] more hs e = absurd e
  ended_more acts (l ∷ ls) (p ∷ ps) more [] e = absurd e
  ended_more acts (l ∷ ls) (p ∷ ps) more (h ∷ hs) e = (e.0, ended_more acts ls ps more hs e.1)

  -- one more, behind as many passes as locks
  pub ended_snoc : (acts : S → E → A → S → Type 0) (ls : List (LockParts S)) (ps : List (PassParts S E A)) (hs : List S) (l : LockParts S) (p : PassParts S E A) (h : S)
      → length ls ≡ length ps → AreEnded acts ls ps hs → EndsBy acts l p h → AreEnded acts (ls ++ l ∷ []) (ps ++ p ∷ []) (hs ++ h ∷ [])
  ended_snoc acts [] [] [] l p h n e b = (b, refl)
  ended_snoc acts [] [] (x ∷ hs) l p h n e b = absurd (cc e)
  ended_snoc acts [] (y ∷ ps) hs l p h n e b = absurd (omega (arith, n))
  ended_snoc acts (z ∷ ls) [] hs l p h n e b = absurd e
  ended_snoc acts (z ∷ ls) (y ∷ ps) [] l p h n e b = absurd e
  ended_snoc acts (z ∷ ls) (y ∷ ps) (x ∷ hs) l p h n e b = (e.0, ended_snoc acts ls ps hs l p h (omega (arith, n)) e.1 b)

-- ---- joining passes place by place, the last one first
module _ {S E A : Type 0} (given : List (PassParts S E A)) where
  -- the passes from place k on stand for one more
  abbrev pub Mixed : (k n : ℕ) → List (LockParts S) → List (PassParts S E A) → Type 0
  Mixed zero n locks passes = AllZip (StandsAmong given (n + 1)) locks passes
  Mixed (suc k) n [] passes = ⊥
  Mixed (suc k) n (l ∷ ls) [] = ⊥
  Mixed (suc k) n (l ∷ ls) (p ∷ ps) = StandsAmong given n l p × Mixed k n ls ps

  -- the first k locks have these passes
  abbrev pub Fronts : ℕ → List (LockParts S) → List (PassParts S E A) → Type 0
  Fronts zero ls qs = qs ≡ []
  Fronts (suc k) [] qs = ⊥
  Fronts (suc k) (l ∷ ls) [] = ⊥
  Fronts (suc k) (l ∷ ls) (q ∷ qs) = StandsAmong given 1 l q × Fronts k ls qs

  pub fronts_all : (ls : List (LockParts S)) (qs : List (PassParts S E A)) → AllZip (StandsAmong given 1) ls qs → Fronts (length qs) ls qs
  fronts_all [] [] p = refl
  fronts_all [] (q ∷ qs) p = absurd p
  fronts_all (l ∷ ls) [] p = absurd p
  fronts_all (l ∷ ls) (q ∷ qs) p = (p.0, fronts_all ls qs p.1)

  pub mixed_all : (n : ℕ) (ls : List (LockParts S)) (ps : List (PassParts S E A)) → AllZip (StandsAmong given n) ls ps → Mixed (length ls) n ls ps
  mixed_all n [] [] p = tt
  mixed_all n [] (q ∷ ps) p = absurd p
  mixed_all n (l ∷ ls) [] p = absurd p
  mixed_all n (l ∷ ls) (q ∷ ps) p = (p.0, mixed_all n ls ps p.1)

  pub fronts_within : (k : ℕ) (ls : List (LockParts S)) (qs : List (PassParts S E A)) → Fronts k ls qs → k ≤ length ls
  fronts_within zero ls qs p = omega arith
  fronts_within (suc k) [] qs p = absurd p
  fronts_within (suc k) (l ∷ ls) [] p = absurd p
  fronts_within (suc k) (l ∷ ls) (q ∷ qs) p = let lt = fronts_within k ls qs p.1 in omega (arith, lt)

  pub fronts_length : (k : ℕ) (ls : List (LockParts S)) (qs : List (PassParts S E A)) → Fronts k ls qs → length qs ≡ k
  fronts_length zero ls qs p = ap length p
  fronts_length (suc k) [] qs p = absurd p
  fronts_length (suc k) (l ∷ ls) [] p = absurd p
  fronts_length (suc k) (l ∷ ls) (q ∷ qs) p = ap suc (fronts_length k ls qs p.1)

  pub fronts_pop : (k : ℕ) (ls : List (LockParts S)) (qs : List (PassParts S E A)) (l : LockParts S) (q : PassParts S E A) → Fronts (suc k) ls (qs ++ q ∷ [])
      → length qs ≡ k → l ≡ get_or ls k l → Fronts k ls qs × StandsAmong given 1 l q
  fronts_pop zero [] qs l q p n is = absurd p
  fronts_pop zero (z ∷ ls) [] l q p n is = (refl, subst (λ m. StandsAmong given 1 m q) (sym is) p.0)
  fronts_pop zero (z ∷ ls) (w ∷ qs) l q p n is = absurd (omega (arith, n))
  fronts_pop (suc k) [] qs l q p n is = absurd p
  fronts_pop (suc k) (z ∷ ls) [] l q p n is = absurd (omega (arith, n))
  fronts_pop (suc k) (z ∷ ls) (w ∷ qs) l q p n is = let r = fronts_pop k ls qs l q p.1 (omega (arith, n)) is in ((p.0, r.0), r.1)

  pub mixed_within : (k n : ℕ) (ls : List (LockParts S)) (ps : List (PassParts S E A)) → Mixed k n ls ps → length ls ≡ length ps
  mixed_within zero n ls ps p = zip_length (StandsAmong given (n + 1)) ls ps p
  mixed_within (suc k) n [] ps p = absurd p
  mixed_within (suc k) n (l ∷ ls) [] p = absurd p
  mixed_within (suc k) n (l ∷ ls) (q ∷ ps) p = ap suc (mixed_within k n ls ps p.1)

  pub mixed_at : (k n : ℕ) (ls : List (LockParts S)) (ps : List (PassParts S E A)) (l : LockParts S) (q : PassParts S E A) → Mixed (suc k) n ls ps
      → l ≡ get_or ls k l → q ≡ get_or ps k q → StandsAmong given n l q
  mixed_at k n [] ps l q m il iq = absurd m
  mixed_at k n (z ∷ ls) [] l q m il iq = absurd m
  mixed_at zero n (z ∷ ls) (w ∷ ps) l q m il iq = subst (λ v. StandsAmong given n l v) (sym iq) (subst (λ v. StandsAmong given n v w) (sym il) m.0)
  mixed_at (suc k) n (z ∷ ls) (w ∷ ps) l q m il iq = mixed_at k n ls ps l q m.1 il iq

  pub mixed_set : (k n : ℕ) (ls : List (LockParts S)) (ps : List (PassParts S E A)) (l : LockParts S) (q : PassParts S E A) → Mixed (suc k) n ls ps
      → l ≡ get_or ls k l → StandsAmong given (n + 1) l q → Mixed k n ls (set ps k q)
  mixed_set k n [] ps l q m il r = absurd m
  mixed_set k n (z ∷ ls) [] l q m il r = absurd m
  mixed_set zero n (z ∷ ls) (w ∷ ps) l q m il r = (subst (λ v. StandsAmong given (n + 1) v q) il r, m.1)
  mixed_set (suc k) n (z ∷ ls) (w ∷ ps) l q m il r = (m.0, mixed_set k n ls ps l q m.1 il r)

module _ {D : Type 0} where
  pub row_alone : (members : LockParts MembersHost) (foreign : LockParts (ForeignHost D)) (p : PassesParts D)
      (m : PassParts MembersHost MembersEvent MembersAnswer) (f : PassParts (ForeignHost D) ForeignEvent StateAnswer)
      → p.parts ≡ [] → p.members ≡ m → p.foreign ≡ f → IsNew members m → IsNew foreign f → RowOf [] members foreign p
  row_alone members foreign p m f parts_are member_is other_is s t = record {
    each = subst (λ c. AllZip (IsNew) [] c) (sym parts_are) tt;
    member = subst (λ x. IsNew members x) (sym member_is) s;
    other = subst (λ x. IsNew foreign x) (sym other_is) t;
  }

  pub row_with : (locks : List (LockParts (Host D))) (lock : LockParts (Host D)) (members : LockParts MembersHost) (foreign : LockParts (ForeignHost D))
      (p q : PassesParts D) (x : PassParts (Host D) PartEvent PartAnswer) → RowOf locks members foreign p → IsNew lock x
      → q.parts ≡ p.parts ++ x ∷ [] → q.members ≡ p.members → q.foreign ≡ p.foreign → RowOf (locks ++ lock ∷ []) members foreign q
  row_with locks lock members foreign p q x r s parts_are member_is other_is = record {
    each = subst (λ c. AllZip (IsNew) (locks ++ lock ∷ []) c) (sym parts_are) (zip_snoc (IsNew) locks p.parts lock x r.each s);
    member = subst (λ m. IsNew members m) (sym member_is) r.member;
    other = subst (λ f. IsNew foreign f) (sym other_is) r.other;
  }

  pub row_whole : (shared : SharedParts D) (p : PassesParts D) → RowOf shared.parts shared.members shared.foreign p → IsAlone shared p
  row_whole shared p r = record {
    parts = news_alone shared.parts p.parts r.each;
    members = new_alone shared.members p.members r.member;
    foreign = new_alone shared.foreign p.foreign r.other;
  }

  pub row_unused : (shared : SharedParts D) (p : PassesParts D) → RowOf shared.parts shared.members shared.foreign p → IsUnused p
  row_unused shared p r = record {
    parts = news_unused shared.parts p.parts r.each;
    members = ap (λ x. x.own) r.member.1;
    foreign = ap (λ x. x.own) r.other.1;
  }

  row_behind : (row : PassesParts D) (rows : List (PassesParts D)) (n : ℕ) (shared : SharedParts D) (p : PassesParts D) → IsRow rows n shared p
      → IsRow (row ∷ rows) n shared p
  row_behind row rows n shared p r = record {
    parts = zip_behind row.parts (parts_in rows) n shared.parts p.parts r.parts;
    members = among_behind (row.members ∷ []) (members_in rows) n shared.members p.members r.members;
    foreign = among_behind (row.foreign ∷ []) (foreign_in rows) n shared.foreign p.foreign r.foreign;
  }

  -- of all rows each one is among them
  pub all_join : (shared : SharedParts D) (rows : List (PassesParts D)) → AllByRecursion (IsAlone shared) rows → AllByRecursion (IsRow rows 1 shared) rows
  all_join shared [] a = tt
  all_join shared (row ∷ rows) a = (
    record {
      parts = zip_among (parts_in rows) shared.parts row.parts a.0.parts;
      members = among_first (members_in rows) shared.members row.members a.0.members;
      foreign = among_first (foreign_in rows) shared.foreign row.foreign a.0.foreign;
    },
    all_weaker (IsRow rows 1 shared) (IsRow (row ∷ rows) 1 shared) (row_behind row rows 1 shared) rows (all_join shared rows a.1),
  )

pub length_snoc : {A : Type 0} (xs : List A) (x : A) → length (xs ++ x ∷ []) ≡ suc (length xs)
length_snoc [] x = refl
length_snoc (y ∷ xs) x = ap suc (length_snoc xs x)

-- how many there were before the last one was taken
taken_length : {A : Type 0} (k : ℕ) (os qs : List A) (q : A) → os ≡ qs ++ q ∷ [] → k ≡ length qs → length os ≡ suc k
taken_length k os qs q is e = ap length is ∙ length_snoc qs q ∙ ap suc (sym e)

module _ {S E A : Type 0} (given : List (PassParts S E A)) (k : ℕ) (ls : List (LockParts S)) (os qs : List (PassParts S E A)) (q : PassParts S E A) (is : os ≡ qs ++ q ∷ []) (e : k ≡ length qs) where
  pub fronts_step : Fronts given (length os) ls os → Fronts given (suc k) ls (qs ++ q ∷ [])
  fronts_step p = subst (λ (x : List (PassParts S E A)). Fronts given (suc k) ls x) is (subst (λ (n : ℕ). Fronts given n ls os) (taken_length k os qs q is e) p)

  pub mixed_step : (n : ℕ) (ps : List (PassParts S E A)) → Mixed given (length os) n ls ps → Mixed given (suc k) n ls ps
  mixed_step n ps p = subst (λ (m : ℕ). Mixed given m n ls ps) (taken_length k os qs q is e) p

-- two lists of one length lose their last entries
pub popped_same : {A B : Type 0} (xs qs : List A) (ys rs : List B) (x : A) (y : B) → xs ≡ qs ++ x ∷ [] → ys ≡ rs ++ y ∷ [] → length ys ≡ length xs
    → length rs ≡ length qs
popped_same xs qs ys rs x y e f same =
    let a : length xs ≡ suc (length qs) = ap length e ∙ length_snoc qs x in
    let b : length ys ≡ suc (length rs) = ap length f ∙ length_snoc rs y in
    omega (arith, a, b, same)

-- one is taken from a list and one put into another
pub popped_pushed : {A B : Type 0} (xs qs : List A) (os ns : List B) (x : A) (o : B) (n : ℕ) → xs ≡ qs ++ x ∷ [] → ns ≡ os ++ o ∷ []
    → length os + length xs ≡ n → length ns + length qs ≡ n
popped_pushed xs qs os ns x o n e f sum =
    let a : length xs ≡ suc (length qs) = ap length e ∙ length_snoc qs x in
    let b : length ns ≡ suc (length os) = ap length f ∙ length_snoc os o in
    omega (arith, a, b, sum)

pub map_snoc : {A B : Type 0} (f : A → B) (xs : List A) (x : A) → map f (xs ++ x ∷ []) ≡ map f xs ++ f x ∷ []
map_snoc f [] x = refl
map_snoc f (y ∷ xs) x = ap (λ l. f y ∷ l) (map_snoc f xs x)

pub none_left : (n : ℕ) → (n == 0) ≡ true → n ≡ 0
none_left n e = grind (arith, nat_tests, e)
