-- The batches of a partition, from the first one to the last.
use Rattle.std.proofs.Common.{◌≡◌, ◌^◌, ◌+◌, ◌-◌, ◌≤◌, ◌<◌, ◌∙◌, ◌∷◌, [], ◌++◌, ℕ, ℤ, zero, suc, pos, negsuc, true, false, List, Some, None, refl, sym, ap, subst, map, length, take, drop, arith, append_assoc, true≢false}
use Rattle.std.specs.Prelude.{◌==◌, ◌+ℤ◌, ◌<ℤ◌, ◌≤ℤ◌}
use Rattle.std.specs.Int.{w32, from_be_bytes, cast_signed}
use Rattle.std.proofs.lemmas.List.{append-nil, drop-append-le, length-append, length-drop, map-append, take-append-drop, take-append-le}
use Rattle.std.proofs.lemmas.Bool.{eqb-true}
use Rattle.std.proofs.lemmas.Int.{ints}
use Rattle.std.proofs.Math.Seq.{take-append_seam}
use Rattle.rec_batch.specs.declared.form.Form.TheVariants.{Stored}
use Rattle.rec_batch.specs.declared.form.BatchView.{BatchView}
use Rattle.rec_batch.specs.Batches.{Accepts, IsBatch, at_least_zero}
use Rattle.rec_batch.specs.Fields.{base_offset, batch_length, last_offset_delta}
use Rattle.rec_batch.specs.Grammar.{Record}
use Rattle.share_client.specs.declared.batches.Span.{Span}
use Rattle.share_client.specs.declared.fault.ClientFault.TheVariants.{Strange}
use Rattle.share_client.specs.Frames.{within}
use Rattle.share_client.specs.Grants.{AreBroken, AreStored, Batch, BeginsFrom, BeginsNone, span_of}
use Rattle.share_client.specs.Spans.{AreSpans, Ascend, IsBrokenAt, IsInFront, IsSized}

-- ---- the batch in front

front_is : (bytes front rest : List ℕ) (n : ℕ) → bytes ≡ front ++ rest → length front ≡ n → front ≡ take n bytes
front_is bytes front rest n e l = sym (take-append_seam front rest) ∙ (ap (λ (k : ℕ). take k (front ++ rest)) l ∙ ap (λ (x : List ℕ). take n x) (sym e))

-- the length that a batch says stands in its first 61 bytes
length_same : (front rest : List ℕ) → 61 ≤ length front → batch_length (front ++ rest) ≡ batch_length front
length_same front rest long =
    let d : drop 8 (front ++ rest) ≡ drop 8 front ++ rest = drop-append-le 8 front rest (omega (arith, long)) in
    let l : length (drop 8 front) ≡ length front - 8 = length-drop 8 front in
    ap (λ (x : List ℕ). cast_signed w32 (from_be_bytes w32 (take 4 x))) d
    ∙ ap (λ (x : List ℕ). cast_signed w32 (from_be_bytes w32 x)) (take-append-le 4 (drop 8 front) rest (omega (arith, l, long)))

module _ (bytes : List ℕ) (b : Batch) (rest : List ℕ) (e : bytes ≡ b.bytes ++ rest) (is : IsBatch Stored b.bytes b.records) where
  whole_length : length bytes ≡ length b.bytes + length rest
  whole_length = ap (λ (x : List ℕ). length x) e ∙ length-append b.bytes rest

  pub says : (batch_length bytes +ℤ pos 12) ≡ pos (length b.bytes)
  says = ap (λ (z : ℤ). z +ℤ pos 12) (ap batch_length e ∙ length_same b.bytes rest is.header) ∙ is.whole

  pub too_short : length bytes < 61 → ⊥
  too_short lt = omega (arith, lt, whole_length, is.header)

  pub says_less : batch_length bytes <ℤ pos 0 → ⊥
  says_less lt = omega (arith, ints, lt, says, is.header)

  pub says_more : (size : ℕ) → batch_length bytes ≡ pos size → length bytes < size + 12 → ⊥
  says_more size h lt = omega (arith, ints, h, says, lt, whole_length)

  pub has_size : (size : ℕ) → batch_length bytes ≡ pos size → length b.bytes ≡ size + 12
  has_size size h = omega (arith, ints, h, says)

-- a stored batch's offsets
module _ (bytes : List ℕ) (view : BatchView) (a : Accepts Stored bytes view) where
  pub view_delta : view.last_delta ≡ at_least_zero (last_offset_delta bytes)
  view_delta = ap at_least_zero a.0.last_delta

  small_by : (base : ℤ) → base_offset bytes ≡ base → view.base + view.last_delta < 2 ^ 62
  small_by (pos n) h =
      let o = a.1.1.offsets.0.2 in
      let v : view.base ≡ n = a.0.base ∙ ap at_least_zero h in
      let s : (pos n +ℤ pos view.last_delta) <ℤ pos (2 ^ 62) = subst (λ (z : ℤ). (z +ℤ pos view.last_delta) <ℤ pos (2 ^ 62)) h
      (subst (λ (z : ℤ). (base_offset bytes +ℤ z) <ℤ pos (2 ^ 62)) (sym a.0.last_delta) o) in
      omega (arith, ints, s, v)
  small_by (negsuc n) h = absurd (omega (arith, ints, subst (λ (z : ℤ). pos 0 ≤ℤ z) h a.1.1.offsets.0.1))

  pub view_small : view.base + view.last_delta < 2 ^ 62
  view_small = small_by (base_offset bytes) refl

module _ (bytes : List ℕ) where
  pub sized_short : length bytes < 61 → IsSized bytes None
  sized_short lt = λ b rest e is. too_short bytes b rest e is lt

  pub sized_below : batch_length bytes <ℤ pos 0 → IsSized bytes None
  sized_below lt = λ b rest e is. says_less bytes b rest e is lt

  pub sized_more : (size : ℕ) → batch_length bytes ≡ pos size → length bytes < size + 12 → IsSized bytes None
  sized_more size h lt = λ b rest e is. says_more bytes b rest e is size h lt

  pub sized_is : (size : ℕ) → batch_length bytes ≡ pos size → size + 12 ≤ length bytes → IsSized bytes (Some (size + 12))
  sized_is size h le = (le, λ b rest e is. has_size bytes b rest e is size h)

  module _ (next : ℕ) where
    pub begins_unsized : IsSized bytes None → BeginsNone next bytes
    begins_unsized s = λ b rest e h. s b rest e h.0

    module _ (size : ℕ) (s : IsSized bytes (Some size)) where
      front_same : (b : Batch) (rest : List ℕ) → bytes ≡ b.bytes ++ rest → BeginsFrom next b → b.bytes ≡ take size bytes
      front_same b rest e h = front_is bytes b.bytes rest size e (s.1 b rest e h.0)

      pub begins_refused : ((records : List Record) → IsBatch Stored (take size bytes) records → ⊥) → BeginsNone next bytes
      begins_refused refused = λ b rest e h.
          refused b.records (subst (λ (x : List ℕ). IsBatch Stored x b.records) (front_same b rest e h) h.0)

      module _ (view : BatchView) (a : Accepts Stored (take size bytes) view) where
        pub begins_low : view.base < next → BeginsNone next bytes
        begins_low lt = λ b rest e h.
            let base : at_least_zero (base_offset b.bytes) ≡ at_least_zero (base_offset (take size bytes)) =
            ap (λ (x : List ℕ). at_least_zero (base_offset x)) (front_same b rest e h) in
            omega (arith, lt, base, h.1, a.0.base)

        pub begins_here : next ≤ view.base → IsInFront next bytes (record { base = view.base; last = view.base + view.last_delta }) (drop size bytes)
        begins_here le = (
          record { bytes = take size bytes; records = a.1.0 },
          (a.1.1, omega (arith, le, a.0.base)),
          sym (take-append-drop size bytes),
          (λ i. record { base = a.0.base i; last = a.0.base i + view_delta (take size bytes) view a i }),
          omega arith,
        )

        pub begins_within : view.base + view.last_delta < 2 ^ 62
        begins_within = view_small (take size bytes) view a

some_by : (n : ℕ) → false ≡ (n == 0) → 1 ≤ n
some_by zero e = absurd (true≢false (sym e))
some_by (suc n) e = omega arith

pub some_of : (l : List ℕ) → false ≡ (length l == 0) → 1 ≤ length l
some_of l e = some_by (length l) e

pub empty_of : (l : List ℕ) → true ≡ (length l == 0) → l ≡ []
empty_of [] e = refl
empty_of (x ∷ l) e = let n : length (x ∷ l) ≡ 0 = eqb-true (length (x ∷ l)) 0 (sym e) in absurd (omega (arith, n))

-- ---- what is walked

-- Up to what is left these batches stand.
pub record Walked (bytes : List ℕ) (next : ℕ) (rest : List ℕ) (spans : List Span) : Type 0 where
  pub found : List Batch
  pub spans_are : spans ≡ map span_of found
  pub shorter : length rest ≤ length bytes
  pub stored : (others : List Batch) → AreStored next rest others → AreStored 0 bytes (found ++ others)
  pub broken : (others : List Batch) (len : ℕ) → AreBroken next rest others len → AreBroken 0 bytes (found ++ others) (length bytes - length rest + len)

pub walk_starts : (bytes : List ℕ) → Walked bytes 0 bytes []
walk_starts bytes = record {
  found = [];
  spans_are = refl;
  shorter = omega arith;
  stored = λ others h. h;
  broken = λ others len h. subst (λ (n : ℕ). AreBroken 0 bytes others n) (omega arith) h;
}

module _ (bytes : List ℕ) (next : ℕ) (rest : List ℕ) (spans : List Span) (w : Walked bytes next rest spans) where
  module _ (span : Span) (after : List ℕ) (x : IsInFront next rest span after) where
    abbrev b : Batch
    b = x.0

    parts : length rest ≡ length x.0.bytes + length after
    parts = ap (λ (l : List ℕ). length l) x.2 ∙ length-append x.0.bytes after

    pub shrinks : length after < length rest
    shrinks = omega (arith, parts, x.1.0.header)

    spans_go_on : spans ++ span ∷ [] ≡ map span_of (w.found ++ b ∷ [])
    spans_go_on = (λ i. w.spans_are i ++ x.3 i ∷ []) ∙ sym (map-append span_of w.found (b ∷ []))

    stored_on : (others : List Batch) → AreStored (span.last + 1) after others → AreStored 0 bytes ((w.found ++ b ∷ []) ++ others)
    stored_on others h =
        subst (λ (l : List Batch). AreStored 0 bytes l) (sym (append_assoc w.found (b ∷ []) others))
        (w.stored (b ∷ others) (x.1, (after, x.2, subst (λ (s : Span). AreStored (s.last + 1) after others) x.3 h)))

    moved_by : (len : ℕ) → length bytes - length rest + (length b.bytes + len) ≡ length bytes - length after + len
    moved_by len = omega (arith, parts, w.shorter)

    broken_on : (others : List Batch) (len : ℕ) → AreBroken (span.last + 1) after others len
        → AreBroken 0 bytes ((w.found ++ b ∷ []) ++ others) (length bytes - length after + len)
    broken_on others len h =
        let done = w.broken (b ∷ others) (length b.bytes + len) (x.1, (after, len, x.2, refl, subst (λ (s : Span). AreBroken (s.last + 1) after others len) x.3 h)) in
        subst (λ (l : List Batch). AreBroken 0 bytes l (length bytes - length after + len)) (sym (append_assoc w.found (b ∷ []) others))
        (subst (λ (k : ℕ). AreBroken 0 bytes (w.found ++ b ∷ others) k) (moved_by len) done)

    pub walk_goes_on : Walked bytes (span.last + 1) after (spans ++ span ∷ [])
    walk_goes_on = record {
      found = w.found ++ b ∷ [];
      spans_are = spans_go_on;
      shorter = omega (arith, parts, w.shorter);
      stored = stored_on;
      broken = broken_on;
    }

  pub walk_ends : rest ≡ [] → AreSpans bytes spans
  walk_ends e = (w.found, subst (λ (l : List Batch). AreStored 0 bytes l) (append-nil w.found) (w.stored [] e), w.spans_are)

  pub walk_breaks : (place : ℕ) → 1 ≤ length rest → BeginsNone next rest → IsBrokenAt place bytes (Strange (within (place + (length bytes - length rest))))
  walk_breaks place some none =
      let same : length bytes - length rest ≡ length bytes - length rest + 0 = omega arith in
      (w.found ++ [], length bytes - length rest + 0, w.broken [] 0 (refl, some, none), ap (λ (n : ℕ). within (place + n)) same)

-- stored batches ascend
pub stored_ascend : (next : ℕ) (bytes : List ℕ) (batches : List Batch) → AreStored next bytes batches → Ascend next (map span_of batches)
stored_ascend next bytes [] h = tt
stored_ascend next bytes (b ∷ batches) h = (h.0.1, omega arith, stored_ascend ((span_of b).last + 1) h.1.0 batches h.1.2)
