-- The spans of batches.
use Rattle.std.proofs.Common.{◌≡◌, ℕ, zero, suc, ◌+◌, ◌-◌, ◌<◌, ◌≤◌, Bool, true, false, cond, List, [], ◌∷◌, ◌++◌, length, get_or, drop, Option, Some, None, refl, ap, ◌∙◌, sym, subst, arith, inl, inr}
use Rattle.std.proofs.Common.{length-append, SFits, w64, ◌^◌}
use Rattle.std.proofs.lemmas.Bool.{cases_lt}
use Rattle.std.proofs.lemmas.Bool.Decides.{nat_tests}
use Rattle.std.proofs.lemmas.Int.{ints}
use Rattle.std.specs.Prelude.{nat_eq, nat_le, nat_lt, ◌&&◌, ℤ, pos, negsuc, ◌+ℤ◌, ◌-ℤ◌, ◌≤ℤ◌, ◌<ℤ◌, unsigned_abs, unwrap_or, slice_index, slice_get, IsSome}
use Rattle.std.specs.List.{AllByRecursion}
use Rattle.share_model.specs.Acks.{kind_of, types_in}
use Rattle.share_model.specs.declared.ack.AckBatch.{AckBatch}
use Rattle.share_model.specs.declared.ack.AckKind.{AckKind}
use Rattle.share_model.specs.declared.ack.AckKind.TheVariants.{Gap}
use Rattle.ack_ranges.specs.Batches.{IsSound, IsWellFormed, covers, number_at, kind_at}
use Rattle.ack_ranges.specs.Pieces.{piece_at, ArePieces}
use Rattle.ack_ranges.specs.Walking.{sound_kind, spans_from, spans_in, spans_of, spans_left, joined, StandsIn}
use Rattle.ack_ranges.specs.declared.piece.Piece.{Piece}
use Rattle.ack_ranges.proofs.Looks.{here, below, beyond}
use Rattle.ack_ranges.proofs.Joins.{SpansFrom, joined_canonical, joined_at, joined_length}

-- ---- batches in order

-- well formed by themselves, from an offset on and in order
abbrev pub RisesFrom : ℕ → List AckBatch → Type 0
RisesFrom low [] = Unit {0}
RisesFrom low (b ∷ bs) = (low ≤ unsigned_abs b.first) × IsSound b × RisesFrom (unsigned_abs b.last + 1) bs

-- the bounds of a batch as numbers
ordered : (b : AckBatch) → IsSound b → unsigned_abs b.first ≤ unsigned_abs b.last
ordered b sound = natural b.first b.last sound.range.0 sound.range.1 where
  natural : (x y : ℤ) → pos 0 ≤ℤ x → x ≤ℤ y → unsigned_abs x ≤ unsigned_abs y
  natural (pos x) (pos y) h k = omega (arith, ints)
  natural (pos x) (negsuc y) h k = absurd (omega (arith, ints))
  natural (negsuc x) y h k = absurd (omega (arith, ints))

rises : (low : ℕ) (bs : List AckBatch) → IsWellFormed bs → ((b : AckBatch) → 0 < length bs → low ≤ unsigned_abs (get_or bs 0 b).first) → RisesFrom low bs
rises low [] well bound = tt
rises low (b ∷ bs) well bound =
    let sound = well.each 0 b (omega arith) in (
      bound b (omega arith),
      sound,
      rises (unsigned_abs b.last + 1) bs
          (record {
            each = λ k d within. well.each (suc k) d (omega arith);
            sorted = λ k d within. well.sorted (suc k) d (omega arith);
          })
          (λ d within. behind b.first b.last (get_or bs 0 d).first sound.range.0 sound.range.1 (well.sorted 0 d (omega arith))),
    ) where
      behind : (x y z : ℤ) → pos 0 ≤ℤ x → x ≤ℤ y → y <ℤ z → unsigned_abs y + 1 ≤ unsigned_abs z
      behind x (pos y) (pos z) h k l = omega (arith, ints)
      behind x (pos y) (negsuc z) h k l = absurd (omega (arith, ints))
      behind x (negsuc y) z h k l = absurd (omega (arith, ints))

pub rises_from : (bs : List AckBatch) → IsWellFormed bs → RisesFrom 0 bs
rises_from bs well = rises 0 bs well (λ b within. omega arith)

all_sound : (low : ℕ) (bs : List AckBatch) → RisesFrom low bs → AllByRecursion IsSound bs
all_sound low [] rises = tt
all_sound low (b ∷ bs) rises = (rises.1, all_sound (unsigned_abs b.last + 1) bs rises.2)

-- a batch that is well formed has a type
pub some_type : (b : AckBatch) → IsSound b → 0 < length b.types
some_type b sound = elim sound.count [
  | inl one ↦ omega arith
  | inr each ↦ counted b.first b.last (length b.types) sound.range.1 each
] where
  counted : (x y : ℤ) (n : ℕ) → x ≤ℤ y → pos n ≡ (y -ℤ x) +ℤ pos 1 → 0 < n
  counted x y n h e = omega (arith, ints)

pub stands_first : (bs : List AckBatch) → AllByRecursion IsSound bs → StandsIn 0 bs
stands_first [] all = tt
stands_first (b ∷ bs) all = (some_type b all.0, all.0, all.1)

pub stands_from : (bs : List AckBatch) → IsWellFormed bs → StandsIn 0 bs
stands_from bs well = stands_first bs (all_sound 0 bs (rises_from bs well))

-- ---- spans in order

many_rise : (o : ℕ) (types : List ℕ) (ys : List Piece) (low : ℕ) → low ≤ o → SpansFrom (o + length types) ys → SpansFrom low (spans_from o types ++ ys)
many_rise o [] ys low le spans = lower o low ys (omega arith) (subst (λ (n : ℕ). SpansFrom n ys) (omega arith) spans) where
  lower : (high low : ℕ) (ys : List Piece) → low ≤ high → SpansFrom high ys → SpansFrom low ys
  lower high low [] le spans = tt
  lower high low (y ∷ ys) le spans = (omega (arith, spans.0), spans.1, spans.2)
many_rise o (n ∷ ns) ys low le spans =
    (le, omega arith, many_rise (o + 1) ns ys (o + 1) (omega arith) (subst (λ (n : ℕ). SpansFrom n ys) (omega arith) spans))

-- the number of the types of a batch that hasn't one for all
each_counted : (b : AckBatch) → IsSound b → nat_eq (length b.types) 1 ≡ false → unsigned_abs b.first + length b.types ≡ unsigned_abs b.last + 1
each_counted b sound more = elim sound.count [
  | inl one ↦ absurd (differ (length b.types) more one)
  | inr each ↦ counted b.first b.last (length b.types) sound.range.0 sound.range.1 each
] where
  differ : (n : ℕ) → nat_eq n 1 ≡ false → n ≡ 1 → ⊥
  differ n e one = grind (arith, nat_tests)

  counted : (x y : ℤ) (n : ℕ) → pos 0 ≤ℤ x → x ≤ℤ y → pos n ≡ (y -ℤ x) +ℤ pos 1 → unsigned_abs x + n ≡ unsigned_abs y + 1
  counted (pos x) (pos y) n h k e = omega (arith, ints)
  counted (pos x) (negsuc y) n h k e = absurd (omega (arith, ints))
  counted (negsuc x) y n h k e = absurd (omega (arith, ints))

span_rise : (b : AckBatch) (ys : List Piece) (low : ℕ) → IsSound b → low ≤ unsigned_abs b.first → SpansFrom (unsigned_abs b.last + 1) ys → SpansFrom low (spans_in b ++ ys)
span_rise b ys low sound le spans =
    elim (nat_eq (length b.types) 1) as (λ t. nat_eq (length b.types) 1 ≡ t → SpansFrom low (cond t ((record { first = unsigned_abs b.first; last = unsigned_abs b.last; kind = sound_kind (slice_index b.types 0) }) ∷ []) (spans_from (unsigned_abs b.first) b.types) ++ ys)) [
      | true ↦ λ e. (le, ordered b sound, spans)
      | false ↦ λ e. many_rise (unsigned_abs b.first) b.types ys low le (subst (λ (n : ℕ). SpansFrom n ys) (sym (each_counted b sound e)) spans)
    ] refl

spans_rise : (low : ℕ) (bs : List AckBatch) → RisesFrom low bs → SpansFrom low (spans_of bs)
spans_rise low [] rises = tt
spans_rise low (b ∷ bs) rises = span_rise b (spans_of bs) low rises.1 rises.0 (spans_rise (unsigned_abs b.last + 1) bs rises.2)

-- ---- what spans say of an offset

sound_is : (number : ℕ) → IsSome (kind_of number) → Some (sound_kind number) ≡ kind_of number
sound_is number some = go (kind_of number) some where
  go : (k : Option AckKind) → IsSome k → Some (unwrap_or k Gap) ≡ k
  go None some = absurd (cc)
  go (Some k) some = refl

-- whether an offset is one of so many from another one on
abbrev within : ℕ → ℕ → ℕ → Bool
within o n x = nat_le o x && nat_lt x (o + n)

many_at : (o : ℕ) (types : List ℕ) (ys : List Piece) (x : ℕ) → ((k d : ℕ) → k < length types → IsSome (kind_of (get_or types k d)))
    → piece_at (spans_from o types ++ ys) x ≡ cond (within o (length types) x) (kind_of (slice_index types (x - o))) (piece_at ys x)
many_at o [] ys x kinds = ap (λ (t : Bool). cond t (kind_of 0) (piece_at ys x)) (sym (outside o 0 x)) where
  outside : (o n x : ℕ) → within o 0 x ≡ false
  outside o n x = grind (arith, nat_tests)
many_at o (n ∷ ns) ys x kinds =
    let span : Piece = record { first = o; last = o; kind = sound_kind n } in
    let more = many_at (o + 1) ns ys x (λ k d low. kinds (suc k) d (omega arith)) in
    elim (cases_lt x o) [
      | inl low ↦
          below span (spans_from (o + 1) ns ++ ys) x low ∙ more
          ∙ ap (λ (t : Bool). cond t (kind_of (slice_index ns (x - (o + 1)))) (piece_at ys x)) (outside (o + 1) (length ns) x (omega arith))
          ∙ ap (λ (t : Bool). cond t (kind_of (slice_index (n ∷ ns) (x - o))) (piece_at ys x)) (sym (outside o (suc (length ns)) x low))
      | inr from ↦ elim (cases_lt o x) [
        | inl high ↦
            let place : x - o ≡ suc (x - (o + 1)) = omega arith in
            beyond span (spans_from (o + 1) ns ++ ys) x high ∙ more
            ∙ ap (λ (t : Bool). cond t (kind_of (slice_index ns (x - (o + 1)))) (piece_at ys x)) (shifted o (length ns) x high)
            ∙ ap (λ (k : ℕ). cond (within o (suc (length ns)) x) (kind_of (slice_index (n ∷ ns) k)) (piece_at ys x)) (sym place)
        | inr upto ↦
            let none : x - o ≡ 0 = omega arith in
            here span (spans_from (o + 1) ns ++ ys) x (omega arith) (omega arith)
            ∙ sound_is n (kinds 0 n (omega arith))
            ∙ ap (λ (k : ℕ). kind_of (slice_index (n ∷ ns) k)) (sym none)
            ∙ ap (λ (t : Bool). cond t (kind_of (slice_index (n ∷ ns) (x - o))) (piece_at ys x)) (sym (inside o (length ns) x (omega arith)))
      ]
    ] where
      outside : (o n x : ℕ) → x < o → within o n x ≡ false
      outside o n x h = grind (arith, nat_tests)

      shifted : (o n x : ℕ) → o < x → within (o + 1) n x ≡ within o (suc n) x
      shifted o n x h = grind (arith, nat_tests)

      inside : (o n x : ℕ) → x ≡ o → within o (suc n) x ≡ true
      inside o n x h = grind (arith, nat_tests)

span_at : (b : AckBatch) (ys : List Piece) (x : ℕ) → IsSound b → piece_at (spans_in b ++ ys) x ≡ cond (covers b x) (kind_of (number_at b x)) (piece_at ys x)
span_at b ys x sound =
    elim (nat_eq (length b.types) 1) as (λ t. nat_eq (length b.types) 1 ≡ t →
    piece_at (cond t ((record { first = unsigned_abs b.first; last = unsigned_abs b.last; kind = sound_kind (slice_index b.types 0) }) ∷ []) (spans_from (unsigned_abs b.first) b.types) ++ ys) x
    ≡ cond (covers b x) (kind_of (slice_index b.types (cond t 0 (x - unsigned_abs b.first)))) (piece_at ys x)) [
      | true ↦ λ e. ap (λ (k : Option AckKind). cond (covers b x) k (piece_at ys x)) (sound_is (slice_index b.types 0) (sound.kinds 0 0 (some_type b sound)))
      | false ↦ λ e.
          many_at (unsigned_abs b.first) b.types ys x sound.kinds
          ∙ ap (λ (t : Bool). cond t (kind_of (slice_index b.types (x - unsigned_abs b.first))) (piece_at ys x)) (bounds (unsigned_abs b.first) (unsigned_abs b.last) (length b.types) x (each_counted b sound e))
    ] refl where
      bounds : (f l n x : ℕ) → f + n ≡ l + 1 → within f n x ≡ (nat_le f x && nat_le x l)
      bounds f l n x e = grind (arith, nat_tests)

spans_at : (low : ℕ) (bs : List AckBatch) (x : ℕ) → RisesFrom low bs → piece_at (spans_of bs) x ≡ kind_at bs x
spans_at low [] x rises = refl
spans_at low (b ∷ bs) x rises =
    span_at b (spans_of bs) x rises.1 ∙ ap (λ (k : Option AckKind). cond (covers b x) (kind_of (number_at b x)) k) (spans_at (unsigned_abs b.last + 1) bs x rises.2)

-- ---- how many spans there are

many_length : (o : ℕ) (types : List ℕ) → length (spans_from o types) ≡ length types
many_length o [] = refl
many_length o (n ∷ ns) = ap suc (many_length (o + 1) ns)

pub span_length : (b : AckBatch) → length (spans_in b) ≡ length b.types
span_length b =
    elim (nat_eq (length b.types) 1) as (λ t. nat_eq (length b.types) 1 ≡ t → length (cond t ((record { first = unsigned_abs b.first; last = unsigned_abs b.last; kind = sound_kind (slice_index b.types 0) }) ∷ []) (spans_from (unsigned_abs b.first) b.types)) ≡ length b.types) [
      | true ↦ λ e. one (length b.types) e
      | false ↦ λ e. many_length (unsigned_abs b.first) b.types
    ] refl where
      one : (n : ℕ) → nat_eq n 1 ≡ true → 1 ≡ n
      one n e = grind (arith, nat_tests)

spans_length : (bs : List AckBatch) → length (spans_of bs) ≡ types_in bs
spans_length [] = refl
spans_length (b ∷ bs) = length-append (spans_in b) (spans_of bs) ∙ (λ i. span_length b i + spans_length bs i)

left_first : (bs : List AckBatch) → spans_left 0 bs ≡ spans_of bs
left_first [] = refl
left_first (b ∷ bs) = refl

-- the pieces of batches, and a bound of their number
pub pieces_of : (bs : List AckBatch) → IsWellFormed bs → ArePieces bs (joined (spans_left 0 bs))
pieces_of bs well =
    let up = rises_from bs well in
    subst (λ (l : List Piece). ArePieces bs (joined l)) (sym (left_first bs)) (record {
      canonical = joined_canonical 0 (spans_of bs) (spans_rise 0 bs up);
      same = λ x. joined_at 0 (spans_of bs) x (spans_rise 0 bs up) ∙ spans_at 0 bs x up;
    })

pub pieces_few : (bs : List AckBatch) → length (joined (spans_left 0 bs)) ≤ types_in bs
pieces_few bs = omega (arith, joined_length (spans_left 0 bs), ap length (left_first bs), spans_length bs)

-- ---- the span at a place

pub drop_at : (xs : List Piece) (place : ℕ) (x : Piece) → slice_get xs place ≡ Some x → drop place xs ≡ x ∷ drop (place + 1) xs
drop_at [] place x is = absurd (cc)
drop_at (y ∷ ys) zero x is = let same : y ≡ x = cc in ap (λ (z : Piece). z ∷ ys) same
drop_at (y ∷ ys) (suc place) x is = drop_at ys place x is ∙ ap (λ (n : ℕ). x ∷ drop n (y ∷ ys)) suc_is where
  suc_is : suc (place + 1) ≡ suc place + 1
  suc_is = omega arith

drop_all : (xs : List Piece) (n : ℕ) → length xs ≤ n → drop n xs ≡ []
drop_all [] zero le = refl
drop_all [] (suc n) le = refl
drop_all (x ∷ xs) zero le = absurd (omega arith)
drop_all (x ∷ xs) (suc n) le = drop_all xs n (omega arith)

-- a span that is read, where others of its batch follow, and where none does
pub read_on : (b : AckBatch) (bs : List AckBatch) (place : ℕ) (x : Piece) → slice_get (spans_in b) place ≡ Some x
    → spans_left place (b ∷ bs) ≡ x ∷ spans_left (place + 1) (b ∷ bs)
read_on b bs place x is = ap (λ (l : List Piece). l ++ spans_of bs) (drop_at (spans_in b) place x is)

pub read_last : (b : AckBatch) (bs : List AckBatch) (place : ℕ) (x : Piece) → slice_get (spans_in b) place ≡ Some x → length b.types ≤ place + 1
    → spans_left place (b ∷ bs) ≡ x ∷ spans_left 0 bs
read_last b bs place x is end =
    read_on b bs place x is
    ∙ ap (λ (l : List Piece). x ∷ (l ++ spans_of bs)) (drop_all (spans_in b) (place + 1) (omega (arith, span_length b)))
    ∙ ap (λ (l : List Piece). x ∷ l) (sym (left_first bs))

many_get : (o : ℕ) (types : List ℕ) (place : ℕ) → place < length types
    → slice_get (spans_from o types) place ≡ Some (record { first = o + place; last = o + place; kind = sound_kind (slice_index types place) })
many_get o [] place low = absurd (omega arith)
many_get o (n ∷ ns) zero low = ap (λ (k : ℕ). Some (record { first = k; last = k; kind = sound_kind n })) (omega arith)
many_get o (n ∷ ns) (suc place) low =
    many_get (o + 1) ns place (omega arith) ∙ ap (λ (k : ℕ). Some (record { first = k; last = k; kind = sound_kind (slice_index ns place) })) (omega arith)

-- the span of one of many types
pub many_span : (b : AckBatch) (place first : ℕ) (kind : AckKind) → nat_eq (length b.types) 1 ≡ false → place < length b.types → first ≡ unsigned_abs b.first
    → kind_of (slice_index b.types place) ≡ Some kind → slice_get (spans_in b) place ≡ Some (record { first = first + place; last = first + place; kind = kind })
many_span b place first kind more low first_is kind_is =
    ap (λ (t : Bool). slice_get (cond t ((record { first = unsigned_abs b.first; last = unsigned_abs b.last; kind = sound_kind (slice_index b.types 0) }) ∷ []) (spans_from (unsigned_abs b.first) b.types)) place) more
    ∙ many_get (unsigned_abs b.first) b.types place low
    ∙ ap (λ (k : ℕ). Some (record { first = k + place; last = k + place; kind = sound_kind (slice_index b.types place) })) (sym first_is)
    ∙ ap (λ (k : Option AckKind). Some (record { first = first + place; last = first + place; kind = unwrap_or k Gap })) kind_is

pub not_one : (n : ℕ) → (n ≡ 1 → ⊥) → nat_eq n 1 ≡ false
not_one n differs = grind (arith, nat_tests)

-- offsets are below 2^63
pub last_below : (b : AckBatch) → IsSound b → SFits w64 b.last → unsigned_abs b.last < 2 ^ 63
last_below b sound fits = natural b.first b.last sound.range.0 sound.range.1 fits where
  natural : (x y : ℤ) → pos 0 ≤ℤ x → x ≤ℤ y → SFits w64 y → unsigned_abs y < 2 ^ 63
  natural x (pos y) h k f = f.sfits
  natural x (negsuc y) h k f = absurd (omega (arith, ints))

pub many_below : (b : AckBatch) (place first : ℕ) → IsSound b → nat_eq (length b.types) 1 ≡ false → place < length b.types → SFits w64 b.last → first ≡ unsigned_abs b.first
    → first + place < 2 ^ 63
many_below b place first sound more low fits first_is = omega (arith, each_counted b sound more, last_below b sound fits)
