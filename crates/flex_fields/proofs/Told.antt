-- What is written of the parts in one version is written of the whole, and stands for what the version tells.
use Rattle.std.proofs.Common.{◌≡◌, ◌+◌, ◌^◌, ◌<◌, ℕ, pos, Bool, true, false, List, [], ◌∷◌, ◌++◌, length, take, map, get_or, Some, None, refl, ap, sym, subst, ◌∙◌, append_assoc, append-nil}
use Rattle.std.specs.Prelude.{Result, Ok, Err, OnOk}
use Rattle.std.specs.List.{flat_map}
use Rattle.std.specs.Int.{w32}
use Rattle.std.proofs.lemmas.List.{take_more, length-map}
use Rattle.std.proofs.lemmas.List.Concat.{flat_map-cons}
use Rattle.std.proofs.lemmas.Grind.{flat_map-append}
use Rattle.flex_fields.specs.Grammar.{AreMany, IsInt}
use Rattle.flex_fields.specs.Writing.{uvarint_bytes, int_bytes}
use Rattle.flex_fields.specs.Formats.{Shape}
use Rattle.flex_fields.specs.Versions.{Schema, Field, Tells, FieldTells, WritesEnd, WritesLen, WritesNull, always, array_by, null_array_by, array_of, null_array_of, stands_where, structure_of, end_bytes, ◌▷◌}
use Rattle.flex_fields.specs.declared.version.Version.{Version}
use Rattle.flex_fields.proofs.Written.{uvarint_spells}
use Rattle.flex_fields.proofs.Puts.{many_push}

-- a field that stands in each version
pub stays : {A : Type 0} {s : Schema A} {a b : List ℕ} {x : A} → Tells s a b x → FieldTells (always s) a b x
stays w = record { appended = w.appended; stands = w.stands }

-- the one was written, and then the other
infixr 30 ◌▸▸◌
pub ◌▸▸◌ : {A B : Type 0} {f : Field A} {g : Field B} {a b c : List ℕ} {x : A} {y : B} → FieldTells f a b x → FieldTells g b c y
    → FieldTells (f ▷ g) a c (x, y)
◌▸▸◌ {A} {B} {f} {g} {a} {b} {c} {x} {y} p q = record {
  appended = q.appended ∙ ap (λ (l : List ℕ). l ++ g.bytes y) p.appended ∙ append_assoc a (f.bytes x) (g.bytes y);
  stands = (f.bytes x, g.bytes y, p.stands, q.stands, refl);
}

-- the fields were written, and then the end
pub structure_tells : {S T : Type 0} (v : Version) (shape : Shape S T) (f : Field T) (solid : f.solid ≡ true) {a b c : List ℕ} {s : S}
    → FieldTells f a b (shape.parts s) → WritesEnd v.flexible b c → Tells (structure_of v shape f solid) a c s
structure_tells v shape f solid {a} {b} {c} {s} p q = record {
  appended = q.appended ∙ ap (λ (l : List ℕ). l ++ end_bytes v.flexible) p.appended ∙ append_assoc a (f.bytes (shape.parts s)) (end_bytes v.flexible);
  stands = (
    f.bytes (shape.parts s),
    end_bytes v.flexible,
    subst (λ t. f.is (f.bytes (shape.parts s)) t) (sym (shape.there (f.told (shape.parts s)))) p.stands,
    q.stands,
    refl,
  );
}

-- ---- a field that may not stand

pub where_tells : {A : Type 0} (there : Bool) (s : Schema A) (a b : List ℕ) (x : A) → there ≡ true → Tells s a b x
    → (absent : A) → FieldTells (stands_where there absent s) a b x
where_tells true s a b x e w absent = record { appended = w.appended; stands = w.stands }
where_tells false s a b x e w absent = absurd cc

pub nowhere_tells : {A : Type 0} (there : Bool) (s : Schema A) (a : List ℕ) (x : A) → there ≡ false
    → (absent : A) → FieldTells (stands_where there absent s) a a x
nowhere_tells true s a x e absent = absurd cc
nowhere_tells false s a x e absent = record { appended = sym (append-nil a); stands = (refl, refl) }

-- ---- arrays

pub len_written : (flexible : Bool) (a b : List ℕ) (n : ℕ) → flexible ≡ true → n + 1 < 2 ^ 32 → b ≡ a ++ uvarint_bytes (n + 1) → WritesLen flexible a b n
len_written true a b n e few put = record { appended = put; stands = uvarint_spells (n + 1) few }
len_written false a b n e few put = absurd cc

pub old_len_written : (flexible : Bool) (a b : List ℕ) (n : ℕ) → flexible ≡ false → IsInt w32 (int_bytes w32 (pos n)) (pos n) → b ≡ a ++ int_bytes w32 (pos n) → WritesLen flexible a b n
old_len_written false a b n e stands put = record { appended = put; stands = stands }
old_len_written true a b n e stands put = absurd cc

array_by_tells : {A : Type 0} (flexible : Bool) (s : Schema A) (xs : List A) {a b c : List ℕ} → WritesLen flexible a b (length xs)
    → c ≡ b ++ flat_map s.format.bytes xs → AreMany s.format.is (flat_map s.format.bytes xs) (map s.told xs)
    → Tells (record { format = array_by flexible s.format; told = map s.told }) a c xs
array_by_tells true s xs {a} {b} {c} len items many = record {
  appended = items ∙ ap (λ (l : List ℕ). l ++ flat_map s.format.bytes xs) len.appended ∙ append_assoc a (uvarint_bytes (length xs + 1)) (flat_map s.format.bytes xs);
  stands = (uvarint_bytes (length xs + 1), flat_map s.format.bytes xs, rw (length-map xs s.told) len.stands, many, refl);
}
array_by_tells false s xs {a} {b} {c} len items many = record {
  appended = items ∙ ap (λ (l : List ℕ). l ++ flat_map s.format.bytes xs) len.appended ∙ append_assoc a (int_bytes w32 (pos (length xs))) (flat_map s.format.bytes xs);
  stands = (int_bytes w32 (pos (length xs)), flat_map s.format.bytes xs, rw (length-map xs s.told) len.stands, many, refl);
}

pub array_tells : {A : Type 0} (v : Version) (s : Schema A) (xs : List A) {a b c : List ℕ} → WritesLen v.flexible a b (length xs)
    → c ≡ b ++ flat_map s.format.bytes xs → AreMany s.format.is (flat_map s.format.bytes xs) (map s.told xs) → Tells (array_of v s) a c xs
array_tells v s xs len items many = array_by_tells v.flexible s xs len items many

null_by_tells : {A : Type 0} (flexible : Bool) (s : Schema A) (a b : List ℕ) → WritesNull flexible a b
    → Tells (record { format = null_array_by flexible s.format; told = (null_array_of (record { number = 0; flexible = flexible }) s).told }) a b None
null_by_tells true s a b w = record { appended = w.appended; stands = w.stands }
null_by_tells false s a b w = record { appended = w.appended; stands = w.stands }

pub null_tells : {A X E : Type 0} (v : Version) (s : Schema A) (a b : List ℕ) (result : Result X E) → OnOk result (WritesNull v.flexible a b)
    → OnOk result (Tells (null_array_of v s) a b None)
null_tells v s a b (Ok x) w = null_by_tells v.flexible s a b w
null_tells v s a b (Err e) w = tt

some_by_tells : {A : Type 0} (flexible : Bool) (s : Schema A) (a b : List ℕ) (xs : List A)
    → Tells (record { format = array_by flexible s.format; told = map s.told }) a b xs
    → Tells (record { format = null_array_by flexible s.format; told = (null_array_of (record { number = 0; flexible = flexible }) s).told }) a b (Some xs)
some_by_tells true s a b xs w = record { appended = w.appended; stands = w.stands }
some_by_tells false s a b xs w = record { appended = w.appended; stands = w.stands }

pub some_tells : {A X E : Type 0} (v : Version) (s : Schema A) (a b : List ℕ) (xs : List A) (result : Result X E) → OnOk result (Tells (array_of v s) a b xs)
    → OnOk result (Tells (null_array_of v s) a b (Some xs))
some_tells v s a b xs (Ok x) w = some_by_tells v.flexible s a b xs w
some_tells v s a b xs (Err e) w = tt

-- the first i and the next, in a loop
pub record FurtherTold {A : Type 0} (s : Schema A) (xs : List A) (j : ℕ) (start now : List ℕ) : Type 0 where
  pub written : now ≡ start ++ flat_map s.format.bytes (take j xs)
  pub stands : AreMany s.format.is (flat_map s.format.bytes (take j xs)) (map s.told (take j xs))

map_snoc : {A B : Type 0} (f : A → B) (xs : List A) (x : A) → map f (xs ++ x ∷ []) ≡ map f xs ++ f x ∷ []
map_snoc f [] x = refl
map_snoc f (y ∷ xs) x = ap (λ l. f y ∷ l) (map_snoc f xs x)

pub further_told : {A : Type 0} (s : Schema A) (xs : List A) (i : ℕ) (x : A) (start before now : List ℕ) → i < length xs → x ≡ get_or xs i x
    → FurtherTold s xs i start before → Tells s before now x → FurtherTold s xs (i + 1) start now
further_told {A} s xs i x start before now lt is so_far put =
    let f = s.format.bytes in
    let e : take (i + 1) xs ≡ take i xs ++ x ∷ [] = take_more xs i x lt ∙ ap (λ (y : A). take i xs ++ y ∷ []) (sym is) in
    let m : flat_map f (take i xs ++ x ∷ []) ≡ flat_map f (take i xs) ++ f x =
    flat_map-append f (take i xs) (x ∷ [])
    ∙ ap (λ (l : List ℕ). flat_map f (take i xs) ++ l) (flat_map-cons f x [] ∙ append-nil (f x)) in
    record {
      written = put.appended ∙ ap (λ (l : List ℕ). l ++ f x) so_far.written ∙ append_assoc start (flat_map f (take i xs)) (f x)
          ∙ ap (λ (l : List ℕ). start ++ l) (sym m) ∙ ap (λ (l : List A). start ++ flat_map f l) (sym e);
      stands = rw (e, m, map_snoc s.told (take i xs) x)
          (many_push s.format.is (s.told x) (f x) (map s.told (take i xs)) (flat_map f (take i xs)) so_far.stands put.stands);
    }
