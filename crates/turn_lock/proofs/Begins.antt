-- The rule of a table that was just made.
use Rattle.std.proofs.Common.{◌≡◌, ℕ, zero, suc, ◌+◌, ◌<◌, List, [], ◌∷◌, ◌++◌, length, map, get_or, refl, sym, ap, ◌∙◌, subst, arith, length-append}
use Rattle.std.proofs.lemmas.List.{length-map}
use Rattle.std.specs.Prelude.{replicate}
use Rattle.std.specs.List.{AllByRecursion}
use mathlib.Core.Option.{some, some-injective, some-ne-none}
use lib.ListN.{get_elem?}
use Rattle.atomic_table.specs.Table.{opening}
use Rattle.shard_lock.specs.declared.shard.Entry.{Entry}
use Rattle.shard_lock.proofs.Views.{once_first, all_join}
use Rattle.turn_lock.specs.declared.board.Desk.{Desk}
use Rattle.turn_lock.specs.declared.board.Cell.{Cell}
use Rattle.turn_lock.specs.declared.board.Cell.TheVariants.{Home, Empty}
use Rattle.turn_lock.specs.declared.board.View.{View}
use Rattle.turn_lock.specs.Rule.{Kept, Stands, IsLead, inner, maker}
use Rattle.turn_lock.specs.Rule.Box.{Bare}

pub all_zero : (n : ℕ) → AllByRecursion (λ (x : ℕ). x ≡ 0) (replicate n 0)
all_zero zero = tt
all_zero (suc n) = (refl, all_zero n)

zero_at : (ws : List ℕ) (i : ℕ) → AllByRecursion (λ (x : ℕ). x ≡ 0) ws → get_or ws i 0 ≡ 0
zero_at [] i all = refl
zero_at (x ∷ ws) zero all = all.0
zero_at (x ∷ ws) (suc i) all = zero_at ws i all.1

module _ {S E A : Type 0} where
  -- boxes with nothing in them
  abbrev pub AreEmpty : List (Cell S E A) → Type 0
  AreEmpty cells = AllByRecursion (λ (c : Cell S E A). c ≡ Empty) cells

  empty_at : (cells : List (Cell S E A)) (i : ℕ) → i < length cells → AreEmpty cells → get_elem? (map some cells) i ≡ some (some Empty)
  empty_at [] i low all = absurd (omega arith)
  empty_at (c ∷ cells) zero low all = ap (λ (z : Cell S E A). some (some z)) all.0
  empty_at (c ∷ cells) (suc i) low all = empty_at cells i (omega arith) all.1

  -- a home, and so many bare boxes behind it
  pub record IsLaid (d : Desk S) (n : ℕ) (cells : List (Cell S E A)) : Type 0 where
    pub boxes : List (Cell S E A)
    pub is : cells ≡ Home d ∷ boxes
    pub bare : AreEmpty boxes
    pub count : length boxes ≡ n

  pub laid_one : (d : Desk S) (cells : List (Cell S E A)) → cells ≡ Home d ∷ [] → IsLaid d 0 cells
  laid_one d cells is = record { boxes = []; is = is; bare = tt; count = refl }

  pub laid_more : (d : Desk S) (n m : ℕ) (cells more : List (Cell S E A)) → more ≡ cells ++ Empty ∷ [] → m ≡ n + 1 → IsLaid d n cells → IsLaid d m more
  laid_more d n m cells more is suc_is l = record {
    boxes = l.boxes ++ Empty ∷ [];
    is = is ∙ ap (λ z. z ++ Empty ∷ []) l.is;
    bare = all_join (λ (c : Cell S E A). c ≡ Empty) l.boxes (Empty ∷ []) l.bare (refl, tt);
    count = let a = length-append l.boxes (Empty ∷ []) in let b = l.count in omega arith;
  }

  pub laid_length : (d : Desk S) (n : ℕ) (cells : List (Cell S E A)) → IsLaid d n cells → length cells ≡ 1 + n
  laid_length d n cells l = let a : length cells ≡ length (Home d ∷ l.boxes) = ap length l.is in let b = l.count in omega arith

  pub begins : (turn : S → List (Entry E A) → S → Type 0) (from : S) (seats : ℕ) (ws : List ℕ) (d : Desk S) (cells : List (Cell S E A)) → 0 < seats → inner d ≡ from → length ws ≡ 1 + seats → AllByRecursion (λ (x : ℕ). x ≡ 0) ws
      → IsLaid d seats cells → Kept turn from seats (opening ws cells (maker from seats 1))
  begins turn from seats ws d cells some_seat is words zeros laid = subst (λ (z : List (Cell S E A)). Kept turn from seats (opening ws z (maker from seats 1))) (sym laid.is) (record {
    log = [];
    now = d;
    box = λ _. Bare;
    legal = record { turns = []; is = refl; follow = sym is };
    wide = let a = length-map laid.boxes (λ (c : Cell S E A). some c) in let b = laid.count in omega arith;
    long = words;
    counted = record { made = omega arith; whole = omega arith; stand = omega arith; once = once_first };
    newest = (0, first, refl, omega arith, refl);
    fresh = λ n h. (refl, refl, λ low. (zero_at ws (suc n) zeros, empty_at laid.boxes n (let b = laid.count in omega arith) laid.bare));
    each = one (λ i v. Stands from [] d (λ _. Bare) (opening ws (Home d ∷ laid.boxes) first) i v) (record {
      seen = ([], refl);
      role = (refl, (λ _. refl), (zero_at ws 1 zeros, empty_at laid.boxes 0 (let b = laid.count in omega arith) laid.bare));
      spent = λ h. absurd (omega arith);
      lives = λ _. record { number = refl; first = refl; ended = tt; stands = refl; listed = refl; olds = tt };
      maker = λ _. (refl, refl);
    });
    asked = λ i e. let z = zero_at ws (suc i) zeros in absurd (omega arith);
    one = λ i j v w ei ej lv lw. absurd (one (λ _ v. IsLead v.role → ⊥) (λ l. l) i v ei lv);
    free = λ _ i v e. one (λ _ v. IsLead v.role → ⊥) (λ l. l) i v e;
    home = λ _. refl;
  }) where
    first : View S E A
    first = maker from seats 1

    one : (P : ℕ → View S E A → Type 0) → P 0 (maker from seats 1) → (i : ℕ) (v : View S E A) → get_elem? (maker from seats 1 ∷ []) i ≡ some v → P i v
    one P p zero v e = subst (P 0) (some-injective (maker from seats 1) v e) p
    one P p (suc i) v e = absurd (some-ne-none v (sym e))
