-- What is read of the batches of a partition is what the grammar says of them.
use Rattle.std.proofs.Common.{◌≡◌, ◌+◌, ◌-◌, ◌≤◌, ◌∙◌, ◌∷◌, [], ◌++◌, ℕ, ℤ, zero, suc, pos, negsuc, List, Option, Some, None, refl, sym, ap, subst, map, length, take, drop, arith, append_assoc, length-append}
use Rattle.std.specs.Prelude.{◌+ℤ◌, flat_map}
use Rattle.std.specs.Option.{option_map_or}
use Rattle.std.proofs.lemmas.Int.{ints}
use Rattle.std.proofs.Math.Seq.{drop-append_seam, take-append_seam}
use Rattle.flex_fields.specs.Grammar.{AreMany}
use Rattle.rec_batch.specs.declared.form.Form.TheVariants.{Stored}
use Rattle.rec_batch.specs.declared.places.Pieces.{Pieces}
use Rattle.rec_batch.specs.Batches.{IsBatch, at_least_zero}
use Rattle.rec_batch.specs.Fields.{base_offset, batch_length, record_count, records_part}
use Rattle.rec_batch.specs.Grammar.{AreHeaders, IsRecord, Record}
use Rattle.rec_batch.specs.Pieces.{pieces_in}
use Rattle.rec_batch.proofs.RecordPlaces.{HasPieces, HasShown, pieces_come}
use Rattle.share_client.specs.Grants.{AreStored, Batch, BeginsFrom, span_of}
use Rattle.share_client.specs.Records.{OffsetRecord, all_records, batch_records, front_record, front_size, records_from, records_in, shown, shown_batch, sized_value}
use Rattle.share_client.proofs.Reading.{front_of, rest_of}
use Rattle.share_client.proofs.Walking.{says}

-- the value in a record's text
value_is : (own rest : List ℕ) (value : Option (List ℕ)) (headers : List (List ℕ × Option (List ℕ))) (len : ℤ) (left : ℕ) → HasPieces own value headers len left
    → sized_value len (drop (length (own ++ rest) - (left + length rest)) (own ++ rest)) ≡ value
value_is own rest None headers len left p = ap (λ (z : ℤ). sized_value z (drop (length (own ++ rest) - (left + length rest)) (own ++ rest))) p.0
value_is own rest (Some value) headers len left p =
    let lead = p.0 in
    let tail = p.1 in
    let whole : own ++ rest ≡ lead ++ ((value ++ tail) ++ rest) = ap (λ (x : List ℕ). x ++ rest) p.3 ∙ append_assoc lead (value ++ tail) rest in
    let sizes : length (own ++ rest) ≡ length own + length rest = length-append own rest in
    let owns : length own ≡ length lead + length (value ++ tail) = ap (λ (x : List ℕ). length x) p.3 ∙ length-append lead (value ++ tail) in
    let skip : length (own ++ rest) - (left + length rest) ≡ length lead = omega (arith, sizes, owns, p.5) in
    let dropped : drop (length (own ++ rest) - (left + length rest)) (own ++ rest) ≡ value ++ (tail ++ rest) =
    ap (λ (n : ℕ). drop n (own ++ rest)) skip ∙ (ap (λ (x : List ℕ). drop (length lead) x) whole
    ∙ (drop-append_seam lead ((value ++ tail) ++ rest) ∙ append_assoc value tail rest)) in
    ap (λ (z : ℤ). sized_value z (drop (length (own ++ rest) - (left + length rest)) (own ++ rest))) p.2
    ∙ (ap (λ (x : List ℕ). Some (take (length value) x)) dropped ∙ ap (λ (x : List ℕ). Some x) (take-append_seam value (tail ++ rest)))

-- the record in front
front_is : (base : ℕ) (own rest : List ℕ) (r : Record) (x : Pieces) → HasShown own rest r x → front_record base (own ++ rest) x ≡ shown base r
front_is base own rest r x s =
    let offset : base + at_least_zero x.delta ≡ base + at_least_zero r.offset_delta = ap (λ (z : ℤ). base + at_least_zero z) s.delta in
    let value : sized_value x.len (drop (length (own ++ rest) - (x.left + x.behind)) (own ++ rest)) ≡ r.value =
    ap (λ (n : ℕ). sized_value x.len (drop (length (own ++ rest) - (x.left + n)) (own ++ rest))) s.behind ∙ value_is own rest r.value r.headers x.len x.left s.value in
    λ i. record { offset = offset i; value = value i }

behind_is : (own rest : List ℕ) (r : Record) (x : Pieces) → HasShown own rest r x → drop (length (own ++ rest) - x.behind) (own ++ rest) ≡ rest
behind_is own rest r x s =
    let size : length (own ++ rest) - x.behind ≡ length own = omega (arith, length-append own rest, s.behind) in
    ap (λ (n : ℕ). drop n (own ++ rest)) size ∙ drop-append_seam own rest

-- the records one after another
many_from : (base : ℕ) (records : List Record) (bytes : List ℕ) → AreMany IsRecord bytes records → records_from (length records) base bytes ≡ map (shown base) records
many_from base [] bytes h = refl
many_from base (r ∷ records) bytes h =
    let p = pieces_come h.0 h.1 r h.2 in
    let more : records_from (length records) base h.1 ≡ map (shown base) records = many_from base records h.1 h.3 in
    ap (λ (b : List ℕ). records_from (suc (length records)) base b) h.4
    ∙ (ap (λ (o : Option Pieces). option_map_or (λ x. front_record base (h.0 ++ h.1) x ∷ records_from (length records) base (drop (length (h.0 ++ h.1) - x.behind) (h.0 ++ h.1))) o []) p.1
    ∙ (ap (λ (f : OffsetRecord). f ∷ records_from (length records) base (drop (length (h.0 ++ h.1) - p.0.behind) (h.0 ++ h.1))) (front_is base h.0 h.1 r p.0 p.2)
    ∙ (ap (λ (b : List ℕ). shown base r ∷ records_from (length records) base b) (behind_is h.0 h.1 r p.0 p.2)
    ∙ ap (λ (l : List OffsetRecord). shown base r ∷ l) more)))

batch_is : (b : Batch) → IsBatch Stored b.bytes b.records → batch_records b.bytes ≡ shown_batch b
batch_is b is =
    ap (λ (z : ℤ). records_from (at_least_zero z) (at_least_zero (base_offset b.bytes)) (records_part b.bytes)) is.content.0
    ∙ many_from (at_least_zero (base_offset b.bytes)) b.records (records_part b.bytes) is.content.1

size_of : (z : ℤ) (n : ℕ) → (z +ℤ pos 12) ≡ pos n → 61 ≤ n → at_least_zero z + 12 ≡ n
size_of (pos k) n e le = omega (arith, ints, e)
size_of (negsuc k) n e le = absurd (omega (arith, ints, e, le))

batches_are : (fuel next : ℕ) (bytes : List ℕ) (batches : List Batch) → length bytes ≤ fuel → AreStored next bytes batches → records_in fuel bytes ≡ flat_map shown_batch batches
batches_are zero next bytes [] le h = refl
batches_are zero next bytes (b ∷ batches) le h =
    absurd (omega (arith, le, ap (λ (l : List ℕ). length l) h.1.1, length-append b.bytes h.1.0, h.0.0.header))
batches_are (suc n) next [] [] le h = refl
batches_are (suc n) next [] (b ∷ batches) le h = absurd (omega (arith, ap (λ (l : List ℕ). length l) h.1.1, length-append b.bytes h.1.0, h.0.0.header))
batches_are (suc n) next (x ∷ xs) [] le h = absurd cc
batches_are (suc n) next (x ∷ xs) (b ∷ batches) le h =
    let rest = h.1.0 in
    let size : front_size (x ∷ xs) ≡ length b.bytes =
    size_of (batch_length (x ∷ xs)) (length b.bytes) (says (x ∷ xs) b rest h.1.1 h.0.0) h.0.0.header in
    let front : take (front_size (x ∷ xs)) (x ∷ xs) ≡ b.bytes = front_of (x ∷ xs) b.bytes rest (front_size (x ∷ xs)) h.1.1 (sym size) in
    let after : drop (front_size (x ∷ xs)) (x ∷ xs) ≡ rest = rest_of (x ∷ xs) b.bytes rest (front_size (x ∷ xs)) h.1.1 (sym size) in
    let fits : length rest ≤ n = omega (arith, le, ap (λ (l : List ℕ). length l) h.1.1, length-append b.bytes rest, h.0.0.header) in
    let more : records_in n rest ≡ flat_map shown_batch batches = batches_are n ((span_of b).last + 1) rest batches fits h.1.2 in
    ap (λ (l : List ℕ). batch_records l ++ records_in n (drop (front_size (x ∷ xs)) (x ∷ xs))) front
    ∙ (ap (λ (l : List ℕ). batch_records b.bytes ++ records_in n l) after
    ∙ (ap (λ (l : List OffsetRecord). l ++ records_in n rest) (batch_is b h.0.0) ∙ ap (λ (l : List OffsetRecord). shown_batch b ++ l) more))

-- the records are those of the batches
pub records_are : (bytes : List ℕ) (batches : List Batch) → AreStored 0 bytes batches → all_records bytes ≡ flat_map shown_batch batches
records_are bytes batches h = batches_are (length bytes) 0 bytes batches (omega arith) h
