-- First faults.
use Rattle.std.proofs.Common.{◌≡◌, ℕ, zero, suc, ◌+◌, ◌<◌, ◌≤◌, Bool, true, false, cond, List, [], ◌∷◌, length, get_or, Option, Some, None, refl, ap, ◌∙◌, sym, subst, arith, inl, inr}
use Rattle.std.proofs.lemmas.Bool.{cases_lt}
use Rattle.std.proofs.lemmas.Option.{get_or_from_slice_get, slice_get-get_or}
use Rattle.std.proofs.lemmas.List.Quantifiers.{position-Some}
use Rattle.std.proofs.lemmas.Iterator.Adapters.{position_from-zero}
use Rattle.std.specs.List.{position_from}
use Rattle.std.specs.Prelude.{◌<ℤ◌, slice_get, position, is_none, IsSome, All}
use Rattle.share_model.specs.Acks.{kind_of, types_in}
use Rattle.share_model.specs.declared.ack.AckBatch.{AckBatch}
use Rattle.share_model.specs.declared.ack.AckKind.{AckKind}
use Rattle.share_model.specs.declared.ack.AckFault.{AckFault}
use Rattle.share_model.specs.declared.ack.AckFault.TheVariants.{BadRange, Unsorted, BadCount, BadType}
use Rattle.ack_ranges.specs.Batches.{HasRange, HasCount, IsSound, AreWellFormed, IsWellFormed}
use Rattle.ack_ranges.specs.Faults.{IsSortedAt, IsFirstFault}

inside : (bs : List AckBatch) (n : ℕ) (b : AckBatch) → slice_get bs n ≡ Some b → n < length bs
inside [] n b is = absurd (cc)
inside (c ∷ bs) zero b is = omega arith
inside (c ∷ bs) (suc n) b is = omega (arith, inside bs n b is)

-- one more batch that is well formed
pub well_more : (bs : List AckBatch) (n : ℕ) (b : AckBatch) → AreWellFormed bs n → slice_get bs n ≡ Some b → IsSound b → IsSortedAt bs n b → AreWellFormed bs (n + 1)
well_more bs n b well at sound sorted = record {
  each = λ k d low. elim (cases_lt k n) [
    | inl under ↦ well.each k d under
    | inr from ↦
        let place : k ≡ n = omega arith in
        let is : get_or bs k d ≡ b = ap (λ (j : ℕ). get_or bs j d) place ∙ get_or_from_slice_get bs n b d at in
        subst IsSound (sym is) sound
  ];
  sorted = λ k d low. elim (cases_lt (suc k) n) [
    | inl under ↦ well.sorted k d under
    | inr from ↦
        let place : suc k ≡ n = omega arith in
        let some : k < length bs = omega (arith, inside bs n b at) in
        let is : get_or bs (suc k) d ≡ b = ap (λ (j : ℕ). get_or bs j d) place ∙ get_or_from_slice_get bs n b d at in
        subst (λ (x : AckBatch). (get_or bs k d).last <ℤ x.first) (sym is) (sorted k (get_or bs k d) (omega arith) (slice_get-get_or bs k d some))
  ];
}

-- what is known of a batch that is well formed
sound_at : (bs : List AckBatch) (n : ℕ) (b : AckBatch) → AreWellFormed bs (suc n) → slice_get bs n ≡ Some b → IsSound b
sound_at bs n b well at = subst IsSound (get_or_from_slice_get bs n b b at) (well.each n b (omega arith))

sorted_at : (bs : List AckBatch) (n : ℕ) (b : AckBatch) → AreWellFormed bs (suc n) → slice_get bs n ≡ Some b → IsSortedAt bs n b
sorted_at bs n b well at k before place before_at =
    let next : suc k ≡ n = omega arith in
    let here : get_or bs (suc k) b ≡ b = ap (λ (j : ℕ). get_or bs j b) next ∙ get_or_from_slice_get bs n b b at in
    let there : get_or bs k b ≡ before = get_or_from_slice_get bs k before b before_at in
    subst (λ (x : AckBatch). x.last <ℤ b.first) there (subst (λ (x : AckBatch). (get_or bs k b).last <ℤ x.first) here (well.sorted k b (omega arith)))

well_less : (bs : List AckBatch) (n m : ℕ) → m ≤ n → AreWellFormed bs n → AreWellFormed bs m
well_less bs n m le well = record {
  each = λ k d low. well.each k d (omega arith);
  sorted = λ k d low. well.sorted k d (omega arith);
}

-- types of which none is no kind
some_kind : (k : Option AckKind) → is_none k ≡ false → IsSome k
some_kind None e = absurd (cc)
some_kind (Some k) e = refl

no_kind : (k : Option AckKind) → is_none k ≡ true → IsSome k → ⊥
no_kind None e some = absurd (cc)
no_kind (Some k) e some = absurd (cc)

pub kinds_bad : (types : List ℕ) (i : ℕ) → position (λ n. is_none (kind_of n)) types ≡ Some i → All (λ n. IsSome (kind_of n)) types → ⊥
kinds_bad types i at kinds =
    let found = position-Some (λ n. is_none (kind_of n)) types i 0 at in
    no_kind (kind_of (get_or types i 0)) found.1 (kinds i 0 found.0)

-- the batch at which the first fault is
record IsFaulty (bs : List AckBatch) (n : ℕ) : Type 0 where
  before : AreWellFormed bs n
  here : n < length bs
  ends : AreWellFormed bs (suc n) → ⊥

abbrev place_of : AckFault → ℕ
place_of (BadRange n) = n
place_of (Unsorted n) = n
place_of (BadCount n) = n
place_of (BadType n i) = n

faulty : (bs : List AckBatch) (x : AckFault) → IsFirstFault bs x → IsFaulty bs (place_of x)
faulty bs (BadRange n) h = record { before = h.2; here = inside bs n h.0 h.1; ends = λ well. h.3 (sound_at bs n h.0 well h.1).range }
faulty bs (Unsorted n) h = record { before = h.2; here = inside bs n h.0 h.1; ends = λ well. h.3.1 (sorted_at bs n h.0 well h.1) }
faulty bs (BadCount n) h = record { before = h.2; here = inside bs n h.0 h.1; ends = λ well. h.3.2 (sound_at bs n h.0 well h.1).count }
faulty bs (BadType n i) h = record { before = h.2; here = inside bs n h.0 h.1; ends = λ well. kinds_bad h.0.types i h.3.3 (sound_at bs n h.0 well h.1).kinds }

-- well-formed batches have no fault
pub no_fault : (bs : List AckBatch) (x : AckFault) → IsFirstFault bs x → IsWellFormed bs → ⊥
no_fault bs x h well =
    let f = faulty bs x h in f.ends (well_less bs (length bs) (suc (place_of x)) (omega (arith, f.here)) well)

not_before : (bs : List AckBatch) (n m : ℕ) → IsFaulty bs n → IsFaulty bs m → n < m → ⊥
not_before bs n m f g less = f.ends (well_less bs m (suc n) (omega arith) g.before)

same_place : (bs : List AckBatch) (n m : ℕ) → IsFaulty bs n → IsFaulty bs m → n ≡ m
same_place bs n m f g =
    elim (cases_lt n m) [
      | inl less ↦ absurd (not_before bs n m f g less)
      | inr le ↦ elim (cases_lt m n) [
        | inl more ↦ absurd (not_before bs m n g f more)
        | inr ge ↦ omega arith
      ]
    ]

-- what holds of the batch at one place holds of it at the other
same_batch : (P : AckBatch → Type 0) (bs : List AckBatch) (n m : ℕ) (b c : AckBatch) → n ≡ m → slice_get bs n ≡ Some b → slice_get bs m ≡ Some c → P c → P b
same_batch P bs n m b c place here there holds =
    let found : Some c ≡ Some b = sym there ∙ ap (slice_get bs) (sym place) ∙ here in
    let same : c ≡ b = cc in
    subst P same holds

-- two first faults are one
pub one_fault : (bs : List AckBatch) (x y : AckFault) → IsFirstFault bs x → IsFirstFault bs y → x ≡ y
one_fault bs x y h g = cases x y h g (same_place bs (place_of x) (place_of y) (faulty bs x h) (faulty bs y g)) where
  range : (n m : ℕ) (b c : AckBatch) → n ≡ m → slice_get bs n ≡ Some b → slice_get bs m ≡ Some c → HasRange c → HasRange b
  range = same_batch HasRange bs

  count : (n m : ℕ) (b c : AckBatch) → n ≡ m → slice_get bs n ≡ Some b → slice_get bs m ≡ Some c → HasCount c → HasCount b
  count = same_batch HasCount bs

  sorted : (n m : ℕ) (b c : AckBatch) → n ≡ m → slice_get bs n ≡ Some b → slice_get bs m ≡ Some c → IsSortedAt bs m c → IsSortedAt bs n b
  sorted n m b c place here there holds = same_batch (λ x. IsSortedAt bs n x) bs n m b c place here there (subst (λ (k : ℕ). IsSortedAt bs k c) (sym place) holds)

  index : (n m i j : ℕ) (b c : AckBatch) → n ≡ m → slice_get bs n ≡ Some b → slice_get bs m ≡ Some c
      → position (λ k. is_none (kind_of k)) b.types ≡ Some i → position (λ k. is_none (kind_of k)) c.types ≡ Some j → i ≡ j
  index n m i j b c place here there mine theirs =
      let same : Some i ≡ Some j = sym mine ∙ same_batch (λ x. position (λ k. is_none (kind_of k)) x.types ≡ Some j) bs n m b c place here there theirs in cc

  cases : (x y : AckFault) → IsFirstFault bs x → IsFirstFault bs y → place_of x ≡ place_of y → x ≡ y
  cases (BadRange n) (BadRange m) h g e = ap (λ (k : ℕ). BadRange k) e
  cases (BadRange n) (Unsorted m) h g e = absurd (h.3 (range n m h.0 g.0 e h.1 g.1 g.3.0))
  cases (BadRange n) (BadCount m) h g e = absurd (h.3 (range n m h.0 g.0 e h.1 g.1 g.3.0))
  cases (BadRange n) (BadType m j) h g e = absurd (h.3 (range n m h.0 g.0 e h.1 g.1 g.3.0))
  cases (Unsorted n) (BadRange m) h g e = absurd (g.3 (range m n g.0 h.0 (sym e) g.1 h.1 h.3.0))
  cases (Unsorted n) (Unsorted m) h g e = ap (λ (k : ℕ). Unsorted k) e
  cases (Unsorted n) (BadCount m) h g e = absurd (h.3.1 (sorted n m h.0 g.0 e h.1 g.1 g.3.1))
  cases (Unsorted n) (BadType m j) h g e = absurd (h.3.1 (sorted n m h.0 g.0 e h.1 g.1 g.3.1))
  cases (BadCount n) (BadRange m) h g e = absurd (g.3 (range m n g.0 h.0 (sym e) g.1 h.1 h.3.0))
  cases (BadCount n) (Unsorted m) h g e = absurd (g.3.1 (sorted m n g.0 h.0 (sym e) g.1 h.1 h.3.1))
  cases (BadCount n) (BadCount m) h g e = ap (λ (k : ℕ). BadCount k) e
  cases (BadCount n) (BadType m j) h g e = absurd (h.3.2 (count n m h.0 g.0 e h.1 g.1 g.3.2))
  cases (BadType n i) (BadRange m) h g e = absurd (g.3 (range m n g.0 h.0 (sym e) g.1 h.1 h.3.0))
  cases (BadType n i) (Unsorted m) h g e = absurd (g.3.1 (sorted m n g.0 h.0 (sym e) g.1 h.1 h.3.1))
  cases (BadType n i) (BadCount m) h g e = absurd (g.3.2 (count m n g.0 h.0 (sym e) g.1 h.1 h.3.2))
  cases (BadType n i) (BadType m j) h g e =
      let same : i ≡ j = index n m i j h.0 g.0 e h.1 g.1 h.3.3 g.3.3 in
      λ k. BadType (e k) (same k)

-- no batch has more types than all
pub types_at : (bs : List AckBatch) (n : ℕ) (d : AckBatch) → n < length bs → length (get_or bs n d).types ≤ types_in bs
types_at [] n d low = absurd (omega arith)
types_at (b ∷ bs) zero d low = omega arith
types_at (b ∷ bs) (suc n) d low = omega (arith, types_at bs n d (omega arith))

pub types_of : (bs : List AckBatch) (n : ℕ) (b : AckBatch) → b ≡ get_or bs n b → n < length bs → length b.types ≤ types_in bs
types_of bs n b is low = omega (arith, types_at bs n b low, ap (λ (x : AckBatch). length x.types) is)

pub bad_within : (types : List ℕ) (i : ℕ) → position (λ n. is_none (kind_of n)) types ≡ Some i → i < length types
bad_within types i at = (position-Some (λ n. is_none (kind_of n)) types i 0 at).0

none_passes : (p : ℕ → Bool) (i : ℕ) (xs : List ℕ) → position_from p i xs ≡ None → (k d : ℕ) → k < length xs → p (get_or xs k d) ≡ false
none_passes p i [] none k d low = absurd (omega arith)
none_passes p i (x ∷ xs) none zero d low =
    elim (p x) as (λ b. p x ≡ b → cond b (Some i) (position_from p (i + 1) xs) ≡ None → p x ≡ false) [
      | true ↦ λ test some. absurd (cc)
      | false ↦ λ test rest. test
    ] refl none
none_passes p i (x ∷ xs) none (suc k) d low =
    elim (p x) as (λ b. cond b (Some i) (position_from p (i + 1) xs) ≡ None → p (get_or xs k d) ≡ false) [
      | true ↦ λ some. absurd (cc)
      | false ↦ λ rest. none_passes p (i + 1) xs rest k d (omega arith)
    ] none

pub kinds_good : (types : List ℕ) → position (λ n. is_none (kind_of n)) types ≡ None → All (λ n. IsSome (kind_of n)) types
kinds_good types none k d low =
    some_kind (kind_of (get_or types k d)) (none_passes (λ n. is_none (kind_of n)) 0 types (sym (position_from-zero (λ n. is_none (kind_of n)) types) ∙ none) k d low)
