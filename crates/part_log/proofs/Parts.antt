-- Parts of a list, and of a list under a map; and of a buffer.
use Rattle.std.proofs.Common.{◌≡◌, ℕ, List, [], ◌∷◌, ◌++◌, length, take, drop, refl, ap, arith}
use Rattle.std.specs.Prelude.{map}
use Rattle.std.proofs.lemmas.List.{take_at}
use Rattle.gate_journal.specs.Frames.{frame_in}

unfoldable pub head_of : {A : Type 0} → A → List A → A
head_of d [] = d
head_of d (x ∷ xs) = x

unfoldable pub tail_of : {A : Type 0} → List A → List A
tail_of [] = []
tail_of (x ∷ xs) = xs

pub record Parted {A B : Type 0} (f : A → B) (xs : List A) (ys : List B) (y : B) : Type 0 where
  pub front : List A
  pub x : A
  pub back : List A
  pub whole : xs ≡ front ++ (x ∷ back)
  pub same : f x ≡ y
  pub fronts : map f front ≡ ys

pub map_parted : {A B : Type 0} (f : A → B) (xs : List A) (ys : List B) (y : B) (zs : List B) → map f xs ≡ ys ++ (y ∷ zs) → Parted f xs ys y
unfolding head_of tail_of
map_parted f [] [] y zs e = absurd (omega (arith, ap length e))
map_parted f [] (z ∷ ys) y zs e = absurd (omega (arith, ap length e))
map_parted f (x ∷ xs) [] y zs e = record { front = []; x = x; back = xs; whole = refl; same = ap (head_of y) e; fronts = refl }
map_parted f (x ∷ xs) (z ∷ ys) y zs e =
    let r = map_parted f xs ys y zs (ap tail_of e) in
    let h = ap (head_of z) e in
    record { front = x ∷ r.front; x = r.x; back = r.back; whole = ap (λ l. x ∷ l) r.whole; same = r.same; fronts = λ i. h i ∷ r.fronts i }

-- a buffer that was written to as a slice
pub refilled : (new items : List ℕ) (len : ℕ) → length new ≡ len → frame_in (take len (new ++ drop (length new) items)) ≡ frame_in new
refilled new items len e = ap frame_in (take_at new (drop (length new) items) len e)
