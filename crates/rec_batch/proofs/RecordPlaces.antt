-- The pieces of a record, and where they stand in the batch.
use Rattle.std.proofs.Common.{◌≡◌, ℕ, ◌+◌, ◌-◌, ◌<◌, ◌≤◌, List, [], ◌∷◌, ◌++◌, length, take, drop, refl, sym, ap, subst, ◌∙◌, append_assoc, length-append, length-drop, arith}
use Rattle.std.specs.Prelude.{ℤ, pos, negsuc, ◌≤ℤ◌, ◌<ℤ◌, ◌+ℤ◌, Option, Some, None, MatchOption}
use Rattle.std.proofs.lemmas.Int.{ints}
use Rattle.std.proofs.lemmas.List.{drop-drop, drop_at, take-append-drop, length-take}
use Rattle.flex_fields.specs.Grammar.{AreMany, IsVarint}
use Rattle.rec_batch.specs.declared.form.Form.TheVariants.{Stored}
use Rattle.rec_batch.specs.declared.places.Pieces.{Pieces}
use Rattle.rec_batch.specs.declared.places.RecordAt.{RecordAt}
use Rattle.rec_batch.specs.Batches.{Follow, IsBatch, at_least_zero, max_size}
use Rattle.rec_batch.specs.Fields.{last_offset_delta, records_part}
use Rattle.rec_batch.specs.Grammar.{AreHeaders, IsNullable, IsRecord, Record}
use Rattle.rec_batch.specs.Passing.{byte_in, nullable_in, varint_in, varlong_in}
use Rattle.rec_batch.specs.Pieces.{delta_in, parts_in, pieces_in}
use Rattle.rec_batch.specs.Places.{IsValueAt, ShowsValue, SplitsAt}
use Rattle.rec_batch.proofs.Numbers.{varint_passes, varlong_passes}
use Rattle.rec_batch.proofs.Parts.{some_is}
use Rattle.rec_batch.proofs.Passed.{byte_drops, nullable_drops, split_gives}
use Rattle.rec_batch.proofs.Uniqueness.{record_some}
use Rattle.rec_batch.proofs.Walking.{many_more}

-- one front behind the other
behind : (x y z l m : List ℕ) → x ≡ l ++ y → y ≡ m ++ z → x ≡ (l ++ m) ++ z
behind x y z l m e f = e ∙ ap (λ (k : List ℕ). l ++ k) f ∙ sym (append_assoc l m z)

-- In the text of a record: a length of -1, or that of a value, behind which so many bytes are left.
abbrev pub HasPieces : List ℕ → Option (List ℕ) → List (List ℕ × Option (List ℕ)) → ℤ → ℕ → Type 0
HasPieces own None headers len left = (len ≡ negsuc 0) × (left ≤ length own)
HasPieces own (Some value) headers len left = (lead : List ℕ) × (tail : List ℕ) × (len ≡ pos (length value))
    × (own ≡ lead ++ (value ++ tail)) × AreHeaders tail headers × (left ≡ length (value ++ tail))

value_pieces : (own lead all v h : List ℕ) (value : Option (List ℕ)) (headers : List (List ℕ × Option (List ℕ))) → IsNullable v value → AreHeaders h headers
    → all ≡ v ++ h → own ≡ lead ++ all → (n : ℤ) × (t : List ℕ) × (varint_in all ≡ Some (n, t)) × HasPieces own value headers n (length t)
value_pieces own lead all v h None headers s a e f = (
  negsuc 0,
  h,
  ap varint_in e ∙ varint_passes.gives v h (negsuc 0) s,
  (refl, omega (arith, ap length f, length-append lead all, ap length e, length-append v h)),
)
value_pieces own lead all v h (Some value) headers s a e f =
    let is : all ≡ s.0 ++ (value ++ h) = e ∙ ap (λ (k : List ℕ). k ++ h) s.2 ∙ append_assoc s.0 value h in (
      pos (length value),
      value ++ h,
      ap varint_in is ∙ varint_passes.gives s.0 (value ++ h) (pos (length value)) s.1,
      (lead ++ s.0, h, refl, behind own all (value ++ h) lead s.0 f is, a, refl),
    )

left_within : (own : List ℕ) (value : Option (List ℕ)) (headers : List (List ℕ × Option (List ℕ))) (len : ℤ) (left : ℕ) → HasPieces own value headers len left → left ≤ length own
left_within own None headers len left p = p.1
left_within own (Some value) headers len left p = omega (arith, ap length p.3, length-append p.0 (value ++ p.1), p.5)

pub record HasShown (own rest : List ℕ) (r : Record) (x : Pieces) : Type 0 where
  pub delta : x.delta ≡ r.offset_delta
  pub value : HasPieces own r.value r.headers x.len x.left
  pub behind : x.behind ≡ length rest

pub pieces_come : (own rest : List ℕ) (r : Record) → IsRecord own r → (x : Pieces) × (pieces_in (own ++ rest) ≡ Some x) × HasShown own rest r x
unfolding pieces_in parts_in delta_in
pieces_come own rest r s =
    let a = s.3 in
    let b = a.3 in
    let c = b.3 in
    let k = c.3 in
    let v = k.3 in
    let a' : byte_in s.1 ≡ Some a.1 = ap byte_in a.4 ∙ byte_drops.gives a.0 a.1 r.attributes a.2 in
    let b' : varlong_in a.1 ≡ Some (r.timestamp_delta, b.1) = ap varlong_in b.4 ∙ varlong_passes.gives b.0 b.1 r.timestamp_delta b.2 in
    let c' : varint_in b.1 ≡ Some (r.offset_delta, c.1) = ap varint_in c.4 ∙ varint_passes.gives c.0 c.1 r.offset_delta c.2 in
    let k' : nullable_in c.1 ≡ Some k.1 = ap nullable_in k.4 ∙ nullable_drops.gives k.0 k.1 r.key k.2 in
    let one = behind own s.1 a.1 s.0 a.0 s.4 a.4 in
    let two = behind own a.1 b.1 (s.0 ++ a.0) b.0 one b.4 in
    let three = behind own b.1 c.1 ((s.0 ++ a.0) ++ b.0) c.0 two c.4 in
    let four = behind own c.1 k.1 (((s.0 ++ a.0) ++ b.0) ++ c.0) k.0 three k.4 in
    let w = value_pieces own ((((s.0 ++ a.0) ++ b.0) ++ c.0) ++ k.0) k.1 v.0 v.1 r.value r.headers v.2 v.3 v.4 four in (
      record { delta = r.offset_delta; len = w.0; left = length w.1; behind = length rest },
      ap pieces_in (ap (λ l. l ++ rest) s.4 ∙ append_assoc s.0 s.1 rest)
          ∙ rw (varint_passes.gives s.0 (s.1 ++ rest) (pos (length s.1)) s.2, split_gives s.1 rest, a', b', c', k', w.2) refl,
      record { delta = refl; value = w.3; behind = refl },
    )

-- offset deltas are no smaller than what is due
from_due : (last next : ℤ) (before behind : List Record) (r : Record) → pos 0 ≤ℤ next → Follow Stored last next (before ++ r ∷ behind) → pos 0 ≤ℤ r.offset_delta
from_due last next [] behind r le f = omega (arith, ints, le, f.0.0)
from_due last next (q ∷ before) behind r le f = from_due last (q.offset_delta +ℤ pos 1) before behind r (omega (arith, ints, le, f.0.0)) f.1

from_zero_is : (z : ℤ) → pos 0 ≤ℤ z → pos (at_least_zero z) ≡ z
from_zero_is (pos n) h = refl
from_zero_is (negsuc n) h = absurd (omega (arith, ints, h))

-- the records of two lists with one moved over
moved : (before behind : List Record) (r : Record) → before ++ r ∷ behind ≡ (before ++ r ∷ []) ++ behind
moved before behind r = sym (append_assoc before (r ∷ []) behind)

module _ (bytes : List ℕ) (place : ℕ) (before behinds : List Record) (r : Record) (h : SplitsAt bytes place before (r ∷ behinds)) where
  whole : length bytes ≡ 61 + (length h.front + (length h.later.0 + length h.later.1))
  whole = omega (arith, h.batch.header, length-drop 61 bytes, ap length h.parts, length-append h.front h.rest, ap length h.later.4, length-append h.later.0 h.later.1)

  pub splits_more : place < length bytes
  splits_more = omega (arith, h.at, whole, record_some h.later.0 r h.later.2)

  pub splits_most : length bytes ≤ 1048588
  splits_most = h.batch.size

  pub rest_is : drop place bytes ≡ h.later.0 ++ h.later.1
  rest_is =
      ap (λ (n : ℕ). drop n bytes) h.at ∙ sym (drop-drop (length h.front) 61 bytes) ∙ ap (drop (length h.front)) h.parts
      ∙ drop_at h.front h.rest (length h.front) refl ∙ h.later.4

  -- what is read where the record begins
  pub read_is : (x : Pieces) × (pieces_in (drop place bytes) ≡ Some x) × HasShown h.later.0 h.later.1 r x
  read_is = let p = pieces_come h.later.0 h.later.1 r h.later.2 in (p.0, ap pieces_in rest_is ∙ p.1, p.2)

  pub delta_is : pos 0 ≤ℤ r.offset_delta
  delta_is = from_due (last_offset_delta bytes) (pos 0) before behinds r (omega (arith, ints)) h.batch.offsets.1

  module _ (x : Pieces) (is : pieces_in (drop place bytes) ≡ Some x) where
    pub shown : HasShown h.later.0 h.later.1 r x
    shown = subst (HasShown h.later.0 h.later.1 r) (some_is read_is.0 x (sym read_is.1 ∙ is)) read_is.2

    pub behind_within : x.behind ≤ length bytes
    behind_within = omega (arith, whole, shown.behind)

    pub left_before : x.left + x.behind ≤ length bytes
    left_before = omega (arith, whole, shown.behind, left_within h.later.0 r.value r.headers x.len x.left shown.value)

    pub delta_shown : pos (at_least_zero x.delta) ≡ r.offset_delta
    delta_shown = from_zero_is x.delta (subst (λ (z : ℤ). pos 0 ≤ℤ z) (sym shown.delta) delta_is) ∙ shown.delta

    pub splits_next : (next : ℕ) → next ≡ length bytes - x.behind → SplitsAt bytes next (before ++ r ∷ []) behinds
    splits_next next e = record {
      batch = subst (IsBatch Stored bytes) (moved before behinds r) h.batch;
      front = h.front ++ h.later.0;
      rest = h.later.1;
      parts = behind (records_part bytes) h.rest h.later.1 h.front h.later.0 h.parts h.later.4;
      at = omega (arith, e, whole, shown.behind, length-append h.front h.later.0);
      earlier = many_more h.front h.later.0 before r h.earlier h.later.2;
      later = h.later.3;
    }

    module _ (next : ℕ) (at_end : next ≡ length bytes - x.behind) where
      value_shown : (value : Option (List ℕ)) (found : Option (ℕ × ℕ)) → HasPieces h.later.0 value r.headers x.len x.left
          → MatchOption found (x.len <ℤ pos 0) (λ v. (v.0 ≡ next - x.left) × (pos v.1 ≡ x.len))
          → MatchOption found (value ≡ None) (λ v. (content : List ℕ) × (value ≡ Some content) × IsValueAt bytes v.0 v.1 next content r.headers)
      value_shown None None p m = refl
      value_shown None (Some v) p m = absurd (omega (arith, ints, p.0, m.1))
      value_shown (Some value) None p m = absurd (omega (arith, ints, p.2, m))
      value_shown (Some value) (Some v) p m =
          let own = p.3 in
          let lead = take 61 bytes ++ (h.front ++ p.0) in
          let is : bytes ≡ lead ++ (value ++ (p.1 ++ h.later.1)) =
          sym (take-append-drop 61 bytes)
          ∙ ap (λ (l : List ℕ). take 61 bytes ++ l)
          (behind (records_part bytes) h.rest h.later.1 h.front h.later.0 h.parts h.later.4
          ∙ ap (λ (l : List ℕ). (h.front ++ l) ++ h.later.1) own
          ∙ append_assoc h.front (p.0 ++ (value ++ p.1)) h.later.1
          ∙ ap (λ (l : List ℕ). h.front ++ l) (append_assoc p.0 (value ++ p.1) h.later.1 ∙ ap (λ (l : List ℕ). p.0 ++ l) (append_assoc value p.1 h.later.1))
          ∙ sym (append_assoc h.front p.0 (value ++ (p.1 ++ h.later.1))))
          ∙ sym (append_assoc (take 61 bytes) (h.front ++ p.0) (value ++ (p.1 ++ h.later.1))) in
          let sizes = length-append value (p.1 ++ h.later.1) in
          let all = length-append lead (value ++ (p.1 ++ h.later.1)) in
          let left : x.left ≡ length value + length p.1 = p.5 ∙ length-append value p.1 in
          let len : v.1 ≡ length value = omega (arith, ints, m.1, p.2) in (
            value,
            refl,
            record {
              front = lead;
              tail = p.1;
              rest = h.later.1;
              is = is;
              at = omega (arith, m.0, at_end, left, ap length is, all, sizes, length-append p.1 h.later.1, shown.behind);
              len_is = len;
              headers_are = p.4;
              end_is = omega (arith, m.0, at_end, left, len, ap length is, all, sizes, length-append p.1 h.later.1, shown.behind);
            },
          )

      pub shows : (found : RecordAt) → found.next ≡ next → MatchOption found.value (x.len <ℤ pos 0) (λ v. (v.0 ≡ next - x.left) × (pos v.1 ≡ x.len)) → ShowsValue bytes r found
      shows found e m = subst
          (λ (n : ℕ). MatchOption found.value (r.value ≡ None) (λ v. (content : List ℕ) × (r.value ≡ Some content) × IsValueAt bytes v.0 v.1 n content r.headers))
          (sym e) (value_shown r.value found.value shown.value m)

-- behind the last record is the end
pub splits_end : (bytes : List ℕ) (place : ℕ) (before : List Record) → SplitsAt bytes place before [] → place ≡ length bytes
splits_end bytes place before h = omega (arith, h.at, h.batch.header, length-drop 61 bytes, ap length h.parts, length-append h.front h.rest, ap length h.later)

pub splits_first : (bytes : List ℕ) (records : List Record) → IsBatch Stored bytes records → SplitsAt bytes 61 [] records
splits_first bytes records b = record { batch = b; front = []; rest = records_part bytes; parts = refl; at = refl; earlier = refl; later = b.content.1 }
