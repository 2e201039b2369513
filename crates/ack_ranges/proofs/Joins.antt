-- Spans that are joined.
use Rattle.std.proofs.Common.{◌≡◌, ℕ, suc, ◌+◌, ◌<◌, ◌≤◌, Bool, true, false, cond, List, [], ◌∷◌, length, refl, ap, ◌∙◌, sym, arith, inl, inr}
use Rattle.std.proofs.Common.{Option, Some}
use Rattle.std.proofs.Common.{◌-◌}
use Rattle.std.specs.Prelude.{nat_eq, nat_le, nat_lt, ◌&&◌}
use Rattle.std.proofs.lemmas.Bool.{cases_lt}
use Rattle.std.proofs.lemmas.Bool.Decides.{nat_tests}
use Rattle.share_model.specs.declared.ack.AckKind.{AckKind}
use Rattle.share_model.specs.declared.ack.AckKind.TheVariants.{Gap, Accept, Release, Reject}
use Rattle.ack_ranges.specs.Pieces.{piece_at, Follows, IsCanonical}
use Rattle.ack_ranges.specs.Walking.{kind_number, touches, join_to, joined}
use Rattle.ack_ranges.specs.declared.piece.Piece.{Piece}
use Rattle.ack_ranges.proofs.Looks.{here, below, beyond}

-- a choice by a test, and what the test says
pub choose : {A : Type 0} (P : A → Type 0) (b : Bool) (x y : A) → (b ≡ true → P x) → (b ≡ false → P y) → P (cond b x y)
choose P true x y at_true at_false = at_true refl
choose P false x y at_true at_false = at_false refl

pub same_kind : (a b : AckKind) → kind_number a ≡ kind_number b → a ≡ b
same_kind Gap Gap e = refl
same_kind Gap Accept e = absurd (omega arith)
same_kind Gap Release e = absurd (omega arith)
same_kind Gap Reject e = absurd (omega arith)
same_kind Accept Gap e = absurd (omega arith)
same_kind Accept Accept e = refl
same_kind Accept Release e = absurd (omega arith)
same_kind Accept Reject e = absurd (omega arith)
same_kind Release Gap e = absurd (omega arith)
same_kind Release Accept e = absurd (omega arith)
same_kind Release Release e = refl
same_kind Release Reject e = absurd (omega arith)
same_kind Reject Gap e = absurd (omega arith)
same_kind Reject Accept e = absurd (omega arith)
same_kind Reject Release e = absurd (omega arith)
same_kind Reject Reject e = refl

pub touches_true : (x y : Piece) → touches x y ≡ true → (y.first ≡ x.last + 1) × (x.kind ≡ y.kind)
unfolding touches
touches_true x y e =
    let parts : (x.last + 1 ≡ y.first) × (kind_number x.kind ≡ kind_number y.kind) = grind (arith, nat_tests) in
    (sym parts.0, same_kind x.kind y.kind parts.1)

pub true_touches : (x y : Piece) → y.first ≡ x.last + 1 → x.kind ≡ y.kind → touches x y ≡ true
unfolding touches
true_touches x y first kind =
    let number : kind_number x.kind ≡ kind_number y.kind = ap kind_number kind in
    grind (arith, nat_tests)

pub touches_false : (x y : Piece) → touches x y ≡ false → y.first ≡ x.last + 1 → y.kind ≡ x.kind → ⊥
unfolding touches
touches_false x y e first kind =
    let number : kind_number x.kind ≡ kind_number y.kind = ap kind_number (sym kind) in
    grind (arith, nat_tests)

pub false_touches : (x y : Piece) → (y.first ≡ x.last + 1 → y.kind ≡ x.kind → ⊥) → touches x y ≡ false
false_touches x y apart =
    elim (touches x y) as (λ b. touches x y ≡ b → touches x y ≡ false) [
      | true ↦ λ e. let t = touches_true x y e in absurd (apart t.0 (sym t.1))
      | false ↦ λ e. e
    ] refl

-- what a span touches is told by its begin and its kind
touches_begin : (p x y : Piece) → touches p x ≡ touches p (record x { last = y.last })
unfolding touches
touches_begin p x y = refl

touches_end : (p x y : Piece) → p.kind ≡ x.kind → touches (record p { last = x.last }) y ≡ touches x y
unfolding touches
touches_end p x y kind = ap (λ (k : AckKind). touches (record p { last = x.last; kind = k }) y) kind

-- a span in front that touches the next one, and one that doesn't
pub join_apart : (p x : Piece) (zs : List Piece) → touches p x ≡ false → join_to p (join_to x zs) ≡ p ∷ join_to x zs
join_apart p x [] misses = ap (λ (b : Bool). cond b ((record p { last = x.last }) ∷ []) (p ∷ x ∷ [])) misses
join_apart p x (y ∷ ys) misses =
    choose (λ (l : List Piece). join_to p l ≡ p ∷ l) (touches x y) ((record x { last = y.last }) ∷ ys) (x ∷ y ∷ ys)
    (λ e. ap (λ (b : Bool). cond b ((record p { last = y.last }) ∷ ys) (p ∷ (record x { last = y.last }) ∷ ys)) (sym (touches_begin p x y) ∙ misses))
    (λ e. ap (λ (b : Bool). cond b ((record p { last = x.last }) ∷ y ∷ ys) (p ∷ x ∷ y ∷ ys)) misses)

pub join_touch : (p x : Piece) (zs : List Piece) → touches p x ≡ true → join_to p (join_to x zs) ≡ join_to (record p { last = x.last }) zs
join_touch p x [] meets = ap (λ (b : Bool). cond b ((record p { last = x.last }) ∷ []) (p ∷ x ∷ [])) meets
join_touch p x (y ∷ ys) meets =
    elim (touches x y) as (λ b. touches x y ≡ b → join_to p (cond b ((record x { last = y.last }) ∷ ys) (x ∷ y ∷ ys)) ≡ join_to (record p { last = x.last }) (y ∷ ys)) [
      | true ↦ λ e.
          ap (λ (b : Bool). cond b ((record p { last = y.last }) ∷ ys) (p ∷ (record x { last = y.last }) ∷ ys)) (sym (touches_begin p x y) ∙ meets)
          ∙ ap (λ (b : Bool). cond b ((record p { last = y.last }) ∷ ys) ((record p { last = x.last }) ∷ y ∷ ys)) (sym (touches_end p x y (touches_true p x meets).1 ∙ e))
      | false ↦ λ e.
          ap (λ (b : Bool). cond b ((record p { last = x.last }) ∷ y ∷ ys) (p ∷ x ∷ y ∷ ys)) meets
          ∙ ap (λ (b : Bool). cond b ((record p { last = y.last }) ∷ ys) ((record p { last = x.last }) ∷ y ∷ ys)) (sym (touches_end p x y (touches_true p x meets).1 ∙ e))
    ] refl

-- ---- spans in order

abbrev pub SpansFrom : ℕ → List Piece → Type 0
SpansFrom low [] = Unit {0}
SpansFrom low (x ∷ xs) = (low ≤ x.first) × (x.first ≤ x.last) × SpansFrom (x.last + 1) xs

abbrev BeginsFrom : ℕ → List Piece → Type 0
BeginsFrom low [] = Unit {0}
BeginsFrom low (x ∷ xs) = low ≤ x.first

begins_join : (low : ℕ) (x : Piece) (zs : List Piece) → low ≤ x.first → BeginsFrom low (join_to x zs)
begins_join low x [] le = le
begins_join low x (y ∷ ys) le = choose (BeginsFrom low) (touches x y) ((record x { last = y.last }) ∷ ys) (x ∷ y ∷ ys) (λ e. le) (λ e. le)

pub joined_begins : (low : ℕ) (xs : List Piece) → SpansFrom low xs → BeginsFrom low (joined xs)
joined_begins low [] spans = tt
joined_begins low (x ∷ xs) spans = begins_join low x (joined xs) spans.0

follows_taken : (x y : Piece) (ys : List Piece) → x.kind ≡ y.kind → Follows y ys → Follows (record x { last = y.last }) ys
follows_taken x y [] kind follows = tt
follows_taken x y (next ∷ ys) kind follows = (follows.0, λ touch same. follows.1 touch (same ∙ kind))

join_canonical : (x : Piece) (zs : List Piece) → x.first ≤ x.last → BeginsFrom (x.last + 1) zs → IsCanonical zs → IsCanonical (join_to x zs)
join_canonical x [] some begins canonical = (some, tt, tt)
join_canonical x (y ∷ ys) some begins canonical =
    choose IsCanonical (touches x y) ((record x { last = y.last }) ∷ ys) (x ∷ y ∷ ys)
    (λ e. (omega (arith, some, begins, canonical.0), follows_taken x y ys (touches_true x y e).1 canonical.1, canonical.2))
    (λ e. (some, (omega (arith, begins), touches_false x y e), canonical))

pub joined_canonical : (low : ℕ) (xs : List Piece) → SpansFrom low xs → IsCanonical (joined xs)
joined_canonical low [] spans = tt
joined_canonical low (x ∷ xs) spans =
    join_canonical x (joined xs) spans.1 (joined_begins (x.last + 1) xs spans.2) (joined_canonical (x.last + 1) xs spans.2)

taken_at : (x y : Piece) (ys : List Piece) (o : ℕ) → x.first ≤ x.last → y.first ≤ y.last → y.first ≡ x.last + 1 → x.kind ≡ y.kind
    → piece_at ((record x { last = y.last }) ∷ ys) o ≡ piece_at (x ∷ y ∷ ys) o
taken_at x y ys o some next touch kind =
    let both : Piece = record x { last = y.last } in
    elim (cases_lt o x.first) [
      | inl low ↦ below both ys o low ∙ sym (below y ys o (omega arith)) ∙ sym (below x (y ∷ ys) o low)
      | inr from ↦ elim (cases_lt x.last o) [
        | inr upto ↦ here both ys o from (omega arith) ∙ sym (here x (y ∷ ys) o from upto)
        | inl over ↦ elim (cases_lt y.last o) [
          | inl past ↦ beyond both ys o past ∙ sym (beyond y ys o past) ∙ sym (beyond x (y ∷ ys) o over)
          | inr within ↦ here both ys o from within ∙ ap (λ (k : AckKind). Some k) kind ∙ sym (here y ys o (omega arith) within) ∙ sym (beyond x (y ∷ ys) o over)
        ]
      ]
    ]

join_at : (x : Piece) (zs : List Piece) (o : ℕ) → x.first ≤ x.last → IsCanonical zs → piece_at (join_to x zs) o ≡ piece_at (x ∷ zs) o
join_at x [] o some canonical = refl
join_at x (y ∷ ys) o some canonical =
    choose (λ (l : List Piece). piece_at l o ≡ piece_at (x ∷ y ∷ ys) o) (touches x y) ((record x { last = y.last }) ∷ ys) (x ∷ y ∷ ys)
    (λ e. let t = touches_true x y e in taken_at x y ys o some canonical.0 t.0 t.1)
    (λ e. refl)

-- spans and their pieces say the same of an offset
same_rest : (x : Piece) (xs ys : List Piece) (o : ℕ) → piece_at xs o ≡ piece_at ys o → piece_at (x ∷ xs) o ≡ piece_at (x ∷ ys) o
same_rest x xs ys o same = ap (λ (k : Option AckKind). cond (nat_le x.first o && nat_le o x.last) (Some x.kind) k) same

pub joined_at : (low : ℕ) (xs : List Piece) (o : ℕ) → SpansFrom low xs → piece_at (joined xs) o ≡ piece_at xs o
joined_at low [] o spans = refl
joined_at low (x ∷ xs) o spans =
    join_at x (joined xs) o spans.1 (joined_canonical (x.last + 1) xs spans.2) ∙ same_rest x (joined xs) xs o (joined_at (x.last + 1) xs o spans.2)

-- pieces are no more than spans
join_length : (x : Piece) (zs : List Piece) → length (join_to x zs) ≤ suc (length zs)
join_length x [] = omega arith
join_length x (y ∷ ys) = choose (λ (l : List Piece). length l ≤ suc (suc (length ys))) (touches x y) ((record x { last = y.last }) ∷ ys) (x ∷ y ∷ ys) (λ e. omega arith) (λ e. omega arith)

pub joined_length : (xs : List Piece) → length (joined xs) ≤ length xs
joined_length [] = omega arith
joined_length (x ∷ xs) = omega (arith, join_length x (joined xs), joined_length xs)

-- ---- the tests of the code

pub touches_next : (x y : Piece) → y.first ≡ x.last + 1 → touches x y ≡ nat_eq (kind_number x.kind) (kind_number y.kind)
unfolding touches
touches_next x y next = ap (λ (b : Bool). b && nat_eq (kind_number x.kind) (kind_number y.kind)) (is_next x.last y.first next) where
  is_next : (l f : ℕ) → f ≡ l + 1 → nat_eq (l + 1) f ≡ true
  is_next l f e = grind (arith, nat_tests)

pub is_next : (l f : ℕ) (b : Bool) → b ≡ true → l < f → b ≡ nat_eq (f - l) 1 → f ≡ l + 1
is_next l f b yes_is less is = grind (arith, nat_tests)

pub not_next : (l f : ℕ) (b : Bool) → b ≡ false → l < f → b ≡ nat_eq (f - l) 1 → f ≡ l + 1 → ⊥
not_next l f b no_is less is next = grind (arith, nat_tests)

pub not_less : (l f : ℕ) (b : Bool) → b ≡ true → f ≤ l → b ≡ nat_lt l f → ⊥
not_less l f b yes_is le is = grind (arith, nat_tests)
