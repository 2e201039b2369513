-- What is written of the parts is written of the whole.
use Rattle.std.proofs.Common.{◌≡◌, ℕ, ◌+◌, ◌^◌, ◌<◌, List, [], ◌∷◌, ◌++◌, length, take, get_or, refl, ap, sym, ◌∙◌, append_assoc}
use Rattle.std.specs.Prelude.{Result, Ok, Err, OnOk}
use Rattle.std.specs.List.{flat_map}
use Rattle.std.proofs.lemmas.List.{append-nil, take_more}
use Rattle.std.proofs.lemmas.List.Concat.{flat_map-cons}
use Rattle.std.proofs.lemmas.Grind.{flat_map-append}
use Rattle.flex_fields.specs.Grammar.{AreMany}
use Rattle.flex_fields.specs.Writing.{uvarint_bytes}
use Rattle.flex_fields.specs.Formats.{Format, Shape, Writes, WritesNoTags, array, ◌▹◌, structure}
use Rattle.flex_fields.proofs.Written.{uvarint_spells}

-- the one was written, and then the other
infixr 30 ◌▸◌
pub ◌▸◌ : {A B : Type 0} {f : Format A} {g : Format B} {a b c : List ℕ} {x : A} {y : B} → Writes f a b x → Writes g b c y → Writes (f ▹ g) a c (x, y)
◌▸◌ {A} {B} {f} {g} {a} {b} {c} {x} {y} p q = record {
  appended = q.appended ∙ ap (λ (l : List ℕ). l ++ g.bytes y) p.appended ∙ append_assoc a (f.bytes x) (g.bytes y);
  stands = (f.bytes x, g.bytes y, p.stands, q.stands, refl);
}

-- the fields were written, and then no tags
pub structure_writes : {S T : Type 0} (shape : Shape S T) {f : Format T} {a b c : List ℕ} {s : S} → Writes f a b (shape.parts s)
    → WritesNoTags b c → Writes (structure shape f) a c s
structure_writes shape {f} {a} {b} {c} {s} p q = record {
  appended = q.appended ∙ ap (λ (l : List ℕ). l ++ uvarint_bytes 0) p.appended ∙ append_assoc a (f.bytes (shape.parts s)) (uvarint_bytes 0);
  stands = (f.bytes (shape.parts s), uvarint_bytes 0, p.stands, q.stands, refl);
}

pub structure_put : {X E S T : Type 0} (shape : Shape S T) (f : Format T) (a c : List ℕ) (s : S) (result : Result X E)
    → OnOk result ((b : List ℕ) × Writes f a b (shape.parts s) × WritesNoTags b c) → OnOk result (Writes (structure shape f) a c s)
structure_put shape f a c s (Ok x) written = structure_writes shape written.1 written.2
structure_put shape f a c s (Err e) written = tt

-- ---- arrays

pub array_writes : {A : Type 0} (f : Format A) (xs : List A) {a b c : List ℕ} → length xs + 1 < 2 ^ 32
    → b ≡ a ++ uvarint_bytes (length xs + 1) → c ≡ b ++ flat_map f.bytes xs → AreMany f.is (flat_map f.bytes xs) xs
    → Writes (array f) a c xs
array_writes f xs {a} {b} {c} few len items many = record {
  appended = items ∙ ap (λ (l : List ℕ). l ++ flat_map f.bytes xs) len ∙ append_assoc a (uvarint_bytes (length xs + 1)) (flat_map f.bytes xs);
  stands = (uvarint_bytes (length xs + 1), flat_map f.bytes xs, uvarint_spells (length xs + 1) few, many, refl);
}

-- one item more
pub many_push : {A : Type 0} (P : List ℕ → A → Type 0) (x : A) (last : List ℕ) (xs : List A) (bytes : List ℕ) → AreMany P bytes xs
    → P last x → AreMany P (bytes ++ last) (xs ++ x ∷ [])
many_push P x last [] bytes many one = (last, [], one, refl, ap (λ (l : List ℕ). l ++ last) many ∙ sym (append-nil last))
many_push P x last (y ∷ xs) bytes many one =
    (many.0, many.1 ++ last, many.2, many_push P x last xs many.1 many.3 one, ap (λ (l : List ℕ). l ++ last) many.4 ∙ append_assoc many.0 many.1 last)

-- the first i and the next, in a loop
pub record Further {A : Type 0} (P : List ℕ → A → Type 0) (f : A → List ℕ) (xs : List A) (j : ℕ) (start now : List ℕ) : Type 0 where
  pub written : now ≡ start ++ flat_map f (take j xs)
  pub stands : AreMany P (flat_map f (take j xs)) (take j xs)

pub further : {A : Type 0} (P : List ℕ → A → Type 0) (f : A → List ℕ) (xs : List A) (i : ℕ) (x : A) (start before now : List ℕ)
    → i < length xs → x ≡ get_or xs i x → before ≡ start ++ flat_map f (take i xs) → AreMany P (flat_map f (take i xs)) (take i xs)
    → now ≡ before ++ f x → P (f x) x → Further P f xs (i + 1) start now
further {A} P f xs i x start before now lt is so_far many here one =
    let e : take (i + 1) xs ≡ take i xs ++ x ∷ [] = take_more xs i x lt ∙ ap (λ (y : A). take i xs ++ y ∷ []) (sym is) in
    let m : flat_map f (take i xs ++ x ∷ []) ≡ flat_map f (take i xs) ++ f x =
    flat_map-append f (take i xs) (x ∷ [])
    ∙ ap (λ (l : List ℕ). flat_map f (take i xs) ++ l) (flat_map-cons f x [] ∙ append-nil (f x)) in
    record {
      written = here ∙ ap (λ (l : List ℕ). l ++ f x) so_far ∙ append_assoc start (flat_map f (take i xs)) (f x)
          ∙ ap (λ (l : List ℕ). start ++ l) (sym m) ∙ ap (λ (l : List A). start ++ flat_map f l) (sym e);
      stands = rw (e, m) (many_push P x (f x) (take i xs) (flat_map f (take i xs)) many one);
    }
