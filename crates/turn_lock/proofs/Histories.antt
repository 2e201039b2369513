-- What a history has of a pass once a turn was added, and turns one after the other.
use Rattle.std.proofs.Common.{◌≡◌, ◌≢◌, ◌⊎◌, inl, inr, ⊎_elim, ℕ, zero, suc, ◌<◌, ◌==◌, if◌then◌else◌, Bool, true, false, List, [], ◌∷◌, ◌++◌, length, get_or, set, sym, refl, ap, ◌∙◌, subst, arith, append-nil, append_assoc, eq-eqb, ne_eqb}
use Rattle.std.specs.List.{AllByRecursion}
use mathlib.Core.Logic.{dite}
use mathlib.Core.Option.{some, some-ne-none}
use native.Mathlib.Decide.{ℕ_discrete}
use lib.ListN.{get_elem?}
use Rattle.shard_lock.specs.declared.shard.Entry.{Entry}
use Rattle.shard_lock.specs.History.{of_pass, IsStart}
use Rattle.shard_lock.specs.Passes.{times, numbers}
use Rattle.shard_lock.proofs.Views.{times_first}
use Rattle.turn_lock.specs.Asking.{asked_of}
use Rattle.turn_lock.specs.Rule.{Box, put, IsOut, Absent, after_enter}
use Rattle.turn_lock.specs.Rule.Box.{Bare, Asked, Grabbed, Entered, Answered}
use Rattle.turn_lock.specs.Turns.{flat, Follow, Leaves}

module _ {E : Type 0} where
  pub far_snoc : (n : ℕ) (took : List (ℕ × E)) (x : ℕ × E) → n ≢ x.0 → AllByRecursion (λ (y : ℕ × E). n ≢ y.0) took → AllByRecursion (λ (y : ℕ × E). n ≢ y.0) (took ++ x ∷ [])
  far_snoc n [] x ne t = (ne, tt)
  far_snoc n (y ∷ took) x ne t = (t.0, far_snoc n took x ne t.1)

module _ {E A : Type 0} where
  pick : (b : Bool) (x : Entry E A) (p q r : List (Entry E A)) → p ≡ q ++ r → (if b then x ∷ p else p) ≡ (if b then x ∷ q else q) ++ r
  pick true x p q r is = ap (λ l. x ∷ l) is
  pick false x p q r is = is

  pub of_join : (n : ℕ) (xs ys : List (Entry E A)) → of_pass n (xs ++ ys) ≡ of_pass n xs ++ of_pass n ys
  of_join n [] ys = refl
  of_join n (x ∷ xs) ys = pick (n == x.seat) x (of_pass n (xs ++ ys)) (of_pass n xs) (of_pass n ys) (of_join n xs ys)

  pub of_absent : (n : ℕ) (es : List (Entry E A)) → Absent n es → of_pass n es ≡ []
  of_absent n [] all = refl
  of_absent n (e ∷ es) all = ap (λ b. if b then e ∷ of_pass n es else of_pass n es) (ne_eqb n e.seat all.0) ∙ of_absent n es all.1

  pub of_first : (n : ℕ) (e : Entry E A) (es : List (Entry E A)) → n ≡ e.seat → of_pass n (e ∷ es) ≡ e ∷ of_pass n es
  of_first n e es is = ap (λ b. if b then e ∷ of_pass n es else of_pass n es) (eq-eqb n e.seat is)

  pub absent_join : (n : ℕ) (xs ys : List (Entry E A)) → Absent n xs → Absent n ys → Absent n (xs ++ ys)
  absent_join n [] ys p q = q
  absent_join n (x ∷ xs) ys p q = (p.0, absent_join n xs ys p.1 q)

  pub record Found (n : ℕ) (es : List (Entry E A)) : Type 0 where
    pub before : List (Entry E A)
    pub one : Entry E A
    pub after : List (Entry E A)
    pub is : es ≡ before ++ (one ∷ after)
    pub seat : n ≡ one.seat
    pub absent : Absent n before

  pub find : (n : ℕ) (es : List (Entry E A)) → Absent n es ⊎ Found n es
  find n [] = inl tt
  find n (e ∷ es) = dite (ℕ_discrete n e.seat)
      (λ hit. inr (record { before = []; one = e; after = es; is = refl; seat = hit; absent = tt }))
      (λ miss. ⊎_elim (λ gone. inl (miss, gone)) (λ f. inr (record { before = e ∷ f.before; one = f.one; after = f.after; is = ap (λ l. e ∷ l) f.is; seat = f.seat; absent = (miss, f.absent) })) (find n es))

  pub entered_not : (by n : ℕ) (es : List (Entry E A)) (box : ℕ → Box A) → Absent n es → after_enter by es box n ≡ box n
  entered_not by n [] box gone = refl
  entered_not by n (e ∷ es) box gone = ap (λ b. if b then Entered by e.answer else after_enter by es box n) (ne_eqb n e.seat gone.0) ∙ entered_not by n es box gone.1

  pub entered_here : (by n : ℕ) (before after : List (Entry E A)) (e : Entry E A) (box : ℕ → Box A) → Absent n before → n ≡ e.seat → after_enter by (before ++ (e ∷ after)) box n ≡ Entered by e.answer
  entered_here by n [] after e box gone is = ap (λ b. if b then Entered by e.answer else after_enter by after box n) (eq-eqb n e.seat is)
  entered_here by n (b ∷ before) after e box gone is = ap (λ c. if c then Entered by b.answer else after_enter by (before ++ (e ∷ after)) box n) (ne_eqb n b.seat gone.0) ∙ entered_here by n before after e box gone.1 is

  pub pairs_absent : (n : ℕ) (es : List (Entry E A)) → AllByRecursion (λ (y : ℕ × E). n ≢ y.0) (asked_of es) → Absent n es
  pairs_absent n [] all = tt
  pairs_absent n (e ∷ es) all = (all.0, pairs_absent n es all.1)

  pub far : (n : ℕ) (before after : List (Entry E A)) (e : Entry E A) → AllByRecursion (λ (y : ℕ × E). n ≢ y.0) (asked_of (before ++ (e ∷ after))) → n ≢ e.seat
  far n [] after e all = all.0
  far n (b ∷ before) after e all = far n before after e all.1

  -- ---- entries of none of these numbers
  abbrev pub NoneOf : List ℕ → List (Entry E A) → Type 0
  NoneOf ns block = AllByRecursion (λ e. times e.seat ns ≡ 0) block

  absent_by : (m : ℕ) (ns : List ℕ) (block : List (Entry E A)) → NoneOf (m ∷ ns) block → Absent m block
  absent_by m ns [] gone = tt
  absent_by m ns (e ∷ es) gone = ((λ is. let t = times_first e.seat m ns (sym is) in let z = gone.0 in absurd (omega arith)), absent_by m ns es gone.1)

  none_rest : (m : ℕ) (ns : List ℕ) (block : List (Entry E A)) → NoneOf (m ∷ ns) block → NoneOf ns block
  none_rest m ns [] gone = tt
  none_rest m ns (e ∷ es) gone = ((let z = gone.0 in omega arith), none_rest m ns es gone.1)

  pub ended_on : (ps : List (ℕ × List (Entry E A))) (log block : List (Entry E A)) → NoneOf (numbers ps) block → AllByRecursion (λ p. of_pass p.0 log ≡ p.1) ps → AllByRecursion (λ p. of_pass p.0 (log ++ block) ≡ p.1) ps
  ended_on [] log block gone all = tt
  ended_on (p ∷ ps) log block gone all = (
    of_join p.0 log block ∙ ((λ i. all.0 i ++ of_absent p.0 block (absent_by p.0 (numbers ps) block gone) i) ∙ append-nil p.1),
    ended_on ps log block (none_rest p.0 (numbers ps) block gone) all.1,
  )

module _ {A : Type 0} where
  pub put_not : (i n : ℕ) (b : Box A) (box : ℕ → Box A) → n ≢ i → put i b box n ≡ box n
  put_not i n b box not = ap (λ c. if c then b else box n) (ne_eqb n i not)

  pub put_here : (i : ℕ) (b : Box A) (box : ℕ → Box A) → put i b box i ≡ b
  put_here i b box = ap (λ c. if c then b else box i) (eq-eqb i i refl)

  abbrev pub IsGrabbed : Box A → Type 0
  IsGrabbed Bare = ⊥
  IsGrabbed Asked = ⊥
  IsGrabbed Grabbed = Unit {0}
  IsGrabbed (Entered by a) = ⊥
  IsGrabbed (Answered a) = ⊥

  pub grabbed_out : (b : Box A) → b ≡ Grabbed → IsOut b
  grabbed_out b is = subst IsOut (sym is) tt

  pub entered_out : (b : Box A) (i : ℕ) (a : A) → b ≡ Entered i a → IsOut b
  entered_out b i a is = subst IsOut (sym is) tt

  abbrev pub by_of : Box A → ℕ
  by_of Bare = 0
  by_of Asked = 0
  by_of Grabbed = 0
  by_of (Entered by a) = by
  by_of (Answered a) = 0

module _ {X : Type 0} where
  pub start_more : (xs log more : List X) → IsStart xs log → IsStart xs (log ++ more)
  start_more xs log more at = (at.0 ++ more, ap (λ l. l ++ more) at.1 ∙ append_assoc xs at.0 more)

-- ---- lists of words
pub word_else : (l : List ℕ) (i j n : ℕ) → j ≢ i → get_or (set l i n) j 0 ≡ get_or l j 0
word_else [] i j n ne = refl
word_else (x ∷ l) zero zero n ne = absurd (ne refl)
word_else (x ∷ l) zero (suc j) n ne = refl
word_else (x ∷ l) (suc i) zero n ne = refl
word_else (x ∷ l) (suc i) (suc j) n ne = word_else l i j n (λ h. ne (ap suc h))

pub word_zero : (l : List ℕ) (i : ℕ) → get_or (set l i 0) i 0 ≡ 0
word_zero [] i = refl
word_zero (x ∷ l) zero = refl
word_zero (x ∷ l) (suc i) = word_zero l i

pub word_here : (l : List ℕ) (i n : ℕ) → i < length l → get_or (set l i n) i 0 ≡ n
word_here [] i n h = absurd (omega arith)
word_here (x ∷ l) zero n h = refl
word_here (x ∷ l) (suc i) n h = word_here l i n (omega arith)

pub ne_suc : (i j : ℕ) → j ≢ i → suc j ≢ suc i
ne_suc i j ne h = ne (omega arith)

pub ne_zero : (j : ℕ) → suc j ≢ 0
ne_zero j h = absurd (omega arith)

module _ {X : Type 0} where
  pub set_there : (l : List X) (i : ℕ) (a b : X) → get_elem? l i ≡ some a → get_elem? (set l i b) i ≡ some b
  set_there [] i a b e = absurd (some-ne-none a (sym e))
  set_there (x ∷ l) zero a b e = refl
  set_there (x ∷ l) (suc i) a b e = set_there l i a b e

-- ---- turns
flat_snoc : {X : Type 0} (bs : List (List X)) (b : List X) → flat (bs ++ b ∷ []) ≡ flat bs ++ b
flat_snoc [] b = append-nil b
flat_snoc (x ∷ bs) b = ap (λ l. x ++ l) (flat_snoc bs b) ∙ sym (append_assoc x (flat bs) b)

module _ {S E A : Type 0} (turn : S → List (Entry E A) → S → Type 0) where
  follow_on : (s t u : S) (bs : List (List (Entry E A))) (b : List (Entry E A)) → Follow turn s bs t → turn t b u → Follow turn s (bs ++ b ∷ []) u
  follow_on s t u [] b is act = (u, subst (λ (z : S). turn z b u) (sym is) act, refl)
  follow_on s t u (x ∷ bs) b led act = (led.0, led.1, follow_on led.0 t u bs b led.2 act)

  pub leaves_on : (from now y : S) (log block : List (Entry E A)) → Leaves turn from log now → turn now block y → Leaves turn from (log ++ block) y
  leaves_on from now y log block r act = record {
    turns = r.turns ++ block ∷ [];
    is = flat_snoc r.turns block ∙ ap (λ l. l ++ block) r.is;
    follow = follow_on from now y r.turns block r.follow act;
  }
