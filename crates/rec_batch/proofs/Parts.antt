-- What it means that a part stands in front of bytes.
use Rattle.std.proofs.Common.{◌≡◌, ℕ, zero, suc, List, [], ◌∷◌, ◌++◌, refl, sym, ap, ◌∙◌, append_assoc, subst, arith}
use Rattle.std.specs.Prelude.{Option, Some, None}
use Rattle.flex_fields.specs.Grammar.{IsBytes}
use Rattle.rec_batch.specs.Passing.{◌>>=◌}

-- a front of the bytes, before the rest
pub record Front (bytes rest : List ℕ) (P : List ℕ → Type 0) : Type 0 where
  pub front : List ℕ
  pub parts : bytes ≡ front ++ rest
  pub stands : P front

-- what is read is what stands in front, whatever follows it
pub record Passes {A : Type 0} (P : List ℕ → A → Type 0) (read : List ℕ → Option (A × List ℕ)) : Type 0 where
  pub takes : (bytes : List ℕ) (x : A) (rest : List ℕ) → IsBytes bytes → read bytes ≡ Some (x, rest) → Front bytes rest (λ front. P front x)
  pub gives : (front tail : List ℕ) (x : A) → P front x → read (front ++ tail) ≡ Some (x, tail)

-- the same where the value is dropped
pub record Drops {A : Type 0} (P : List ℕ → A → Type 0) (read : List ℕ → Option (List ℕ)) : Type 0 where
  pub takes : (bytes rest : List ℕ) → IsBytes bytes → read bytes ≡ Some rest → (x : A) × Front bytes rest (λ front. P front x)
  pub gives : (front tail : List ℕ) (x : A) → P front x → read (front ++ tail) ≡ Some tail

pub bind_some : {A B : Type 0} (r : Option A) (f : A → Option B) (y : B) → (r >>= f) ≡ Some y → (x : A) × (r ≡ Some x) × (f x ≡ Some y)
bind_some None f y e = absurd (cc)
bind_some (Some x) f y e = (x, refl, e)

-- bytes behind a front are bytes
pub IsBytes-behind : (front rest : List ℕ) → IsBytes (front ++ rest) → IsBytes rest
IsBytes-behind [] rest h = h
IsBytes-behind (b ∷ front) rest h = IsBytes-behind front rest (λ i. h (suc i))

pub IsBytes-front : (front rest : List ℕ) → IsBytes (front ++ rest) → IsBytes front
IsBytes-front [] rest h i = omega arith
IsBytes-front (b ∷ front) rest h zero = h 0
IsBytes-front (b ∷ front) rest h (suc i) = IsBytes-front front rest (λ j. h (suc j)) i

pub some_is : {A : Type 0} (x y : A) → Some x ≡ Some y → x ≡ y
some_is x y e = cc

pub rest_fits : (bytes rest : List ℕ) (P : List ℕ → Type 0) → IsBytes bytes → Front bytes rest P → IsBytes rest
rest_fits bytes rest P h f = IsBytes-behind f.front rest (subst IsBytes f.parts h)

-- the one, and then the other
pub Front-then : {P Q R : List ℕ → Type 0} (a b c : List ℕ) → Front a b P → Front b c Q → ((x y : List ℕ) → P x → Q y → R (x ++ y)) → Front a c R
Front-then a b c p q both = record {
  front = p.front ++ q.front;
  parts = p.parts ∙ ap (λ l. p.front ++ l) q.parts ∙ sym (append_assoc p.front q.front c);
  stands = both p.front q.front p.stands q.stands;
}
