-- How long what is written is.
use Rattle.std.proofs.Common.{◌≡◌, ℕ, ◌+◌, ◌^◌, ◌<◌, ◌≤◌, List, [], ◌∷◌, ◌++◌, length, refl, sym, ap, ◌∙◌, append_assoc, length-append, arith}
use Rattle.rec_batch.specs.declared.rec.Rec.{Rec}
use Rattle.rec_batch.specs.Written.{body_bytes, nullable_bytes, record_bytes, records_bytes}
use Rattle.std.specs.Prelude.{pos}
use Rattle.flex_fields.specs.Writing.{varint_bytes, varlong_bytes}
use Rattle.flex_fields.proofs.Written.{varint_spells, varlong_spells}

-- a body has a byte at least
body_some : (delta : ℕ) (r : Rec) → 0 < length (body_bytes delta r)
unfolding body_bytes
body_some delta r = omega arith

pub record_some : (delta : ℕ) (r : Rec) → 0 < length (record_bytes delta r)
unfolding record_bytes
record_some delta r = omega (arith, length-append (varint_bytes (pos (length (body_bytes delta r)))) (body_bytes delta r), body_some delta r)

pub records-cons : (delta : ℕ) (r : Rec) (records : List Rec) → records_bytes delta (r ∷ records) ≡ record_bytes delta r ++ records_bytes (delta + 1) records
unfolding records_bytes
records-cons delta r records = refl

pub records-nil : (delta : ℕ) → records_bytes delta [] ≡ []
unfolding records_bytes
records-nil delta = refl

-- no more records than bytes
pub records_many : (delta : ℕ) (records : List Rec) → length records ≤ length (records_bytes delta records)
unfolding records_bytes
records_many delta [] = omega arith
records_many delta (r ∷ records) = omega (arith, length-append (record_bytes delta r) (records_bytes (delta + 1) records), record_some delta r, records_many (delta + 1) records)

-- one record more
pub parts_more : (out start all : List ℕ) (delta : ℕ) (rest others : List Rec) (first : Rec) → rest ≡ first ∷ others → out ++ records_bytes delta rest ≡ start ++ all
    → (out ++ record_bytes delta first) ++ records_bytes (delta + 1) others ≡ start ++ all
parts_more out start all delta rest others first e whole =
    append_assoc out (record_bytes delta first) (records_bytes (delta + 1) others) ∙ ap (λ l. out ++ l) (sym (ap (records_bytes delta) e ∙ records-cons delta first others)) ∙ whole

-- it is no longer than all of them
pub part_small : (out start all : List ℕ) (delta : ℕ) (rest others : List Rec) (first : Rec) → rest ≡ first ∷ others → out ++ records_bytes delta rest ≡ start ++ all → length start ≤ length out
    → length (record_bytes delta first) ≤ length all
part_small out start all delta rest others first e whole grown =
    omega (
      arith,
      ap length (parts_more out start all delta rest others first e whole),
      length-append (out ++ record_bytes delta first) (records_bytes (delta + 1) others),
      length-append out (record_bytes delta first),
      length-append start all,
    )

pub no_length : (records : List Rec) → length records ≡ 0 → records ≡ []
no_length [] e = refl
no_length (r ∷ records) e = absurd (omega arith)

varint_few : (n : ℕ) → n < 2 ^ 31 → length (varint_bytes (pos n)) ≤ 5
varint_few n small = (varint_spells (pos n) (omega arith)).1.1

varlong_few : length (varlong_bytes (pos 0)) ≤ 10
varlong_few = (varlong_spells (pos 0) (omega arith)).1.1

-- a body is its key and its value, and few bytes more
pub body_size : (delta : ℕ) (r : Rec) → delta < 2 ^ 31 →
    (length (nullable_bytes r.key) + length (nullable_bytes r.value) ≤ length (body_bytes delta r)) ×
    (length (body_bytes delta r) ≤ 21 + length (nullable_bytes r.key) + length (nullable_bytes r.value))
unfolding body_bytes
body_size delta r h =
    let e = varint_bytes (pos 0) in
    let v = nullable_bytes r.value ++ e in
    let k = nullable_bytes r.key ++ v in
    let d = varint_bytes (pos delta) ++ k in (
      omega (arith, length-append (varlong_bytes (pos 0)) d, length-append (varint_bytes (pos delta)) k, length-append (nullable_bytes r.key) v, length-append (nullable_bytes r.value) e),
      omega (
        arith,
        varint_few delta h,
        varint_few 0 (omega arith),
        varlong_few,
        length-append (varlong_bytes (pos 0)) d,
        length-append (varint_bytes (pos delta)) k,
        length-append (nullable_bytes r.key) v,
        length-append (nullable_bytes r.value) e,
      ),
    )

pub record_length : (delta : ℕ) (r : Rec) → length (record_bytes delta r) ≡ length (varint_bytes (pos (length (body_bytes delta r)))) + length (body_bytes delta r)
unfolding record_bytes
record_length delta r = length-append (varint_bytes (pos (length (body_bytes delta r)))) (body_bytes delta r)

pub records_length : (delta : ℕ) (rest others : List Rec) (first : Rec) → rest ≡ first ∷ others →
    length (records_bytes delta rest) ≡ length (record_bytes delta first) + length (records_bytes (delta + 1) others)
records_length delta rest others first e = ap (λ l. length (records_bytes delta l)) e ∙ ap length (records-cons delta first others)
    ∙ length-append (record_bytes delta first) (records_bytes (delta + 1) others)
