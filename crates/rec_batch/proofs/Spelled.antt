-- What is written is a batch with the records that were to be written.
use Rattle.std.proofs.Common.{◌≡◌, ℕ, suc, ◌+◌, ◌-◌, ◌^◌, ◌<◌, ◌≤◌, List, [], ◌∷◌, ◌++◌, length, refl, sym, ap, subst, ◌∙◌, append-nil, length-append, arith}
use Rattle.std.specs.Prelude.{ℤ, pos, negsuc, ◌+ℤ◌, ◌≤ℤ◌, ◌<ℤ◌, Option, Some, None, Result, Ok, Err, IfOk}
use Rattle.std.specs.Int.{w8, w32, cast_signed, from_be_bytes}
use Rattle.std.proofs.lemmas.Int.{ints}
use Rattle.std.proofs.lemmas.Nat.{from_be_bytes-to_be_bytes_4}
use Rattle.std.proofs.Math.Facts.{to_z_pos}
use Rattle.flex_fields.specs.declared.fault.NoMemory.{NoMemory}
use Rattle.flex_fields.specs.Grammar.{AreMany, IsVarint}
use Rattle.flex_fields.specs.Writing.{int_bytes, varint_bytes, varlong_bytes}
use Rattle.flex_fields.proofs.Written.{varint_spells, varlong_spells}
use Rattle.crc_castagnoli.specs.Division.{crc_of}
use Rattle.rec_batch.specs.declared.form.Form.{Form}
use Rattle.rec_batch.specs.declared.form.Form.TheVariants.{Produced, Stored}
use Rattle.rec_batch.specs.declared.rec.Rec.{Rec}
use Rattle.rec_batch.specs.Fields.{base_offset, last_offset_delta}
use Rattle.rec_batch.specs.Grammar.{AreHeaders, IsBody, IsNullable, IsRecord}
use Rattle.rec_batch.specs.Batches.{Follow, HasOffsets, IsBatch, max_size}
use Rattle.rec_batch.specs.Written.{batch_bytes, body_bytes, checked_bytes, nullable_bytes, record_bytes, record_of, records_from, records_bytes}
use Rattle.rec_batch.proofs.WrittenSizes.{records_many}
use Rattle.rec_batch.proofs.Placed.{counts_rise}

-- a number that isn't negative, in a varint
small_spells : (n : ℕ) → n < 2 ^ 31 → IsVarint (varint_bytes (pos n)) (pos n)
small_spells n h = varint_spells (pos n) (omega arith)

nullable_spells : (x : Option (List ℕ)) → length (nullable_bytes x) < 2 ^ 31 → IsNullable (nullable_bytes x) x
unfolding nullable_bytes
nullable_spells None h = varint_spells (negsuc 0) (omega arith)
nullable_spells (Some content) h =
    (varint_bytes (pos (length content)), small_spells (length content) (omega (arith, length-append (varint_bytes (pos (length content))) content)), refl)

no_headers : AreHeaders (varint_bytes (pos 0)) []
no_headers = (varint_bytes (pos 0), [], small_spells 0 (omega arith), refl, sym (append-nil (varint_bytes (pos 0))))

body_spells : (delta : ℕ) (r : Rec) → delta < 2 ^ 31 → length (body_bytes delta r) < 2 ^ 31 → IsBody (body_bytes delta r) (record_of delta r)
unfolding body_bytes
body_spells delta r few small =
    let e = varint_bytes (pos 0) in
    let v = nullable_bytes r.value ++ e in
    let k = nullable_bytes r.key ++ v in
    let d = varint_bytes (pos delta) ++ k in
    let t = varlong_bytes (pos 0) ++ d in
    let key : length (nullable_bytes r.key) < 2 ^ 31 =
    omega (arith, length-append (int_bytes w8 (pos 0)) t, length-append (varlong_bytes (pos 0)) d, length-append (varint_bytes (pos delta)) k, length-append (nullable_bytes r.key) v) in
    let value : length (nullable_bytes r.value) < 2 ^ 31 =
    omega (
      arith,
      length-append (int_bytes w8 (pos 0)) t,
      length-append (varlong_bytes (pos 0)) d,
      length-append (varint_bytes (pos delta)) k,
      length-append (nullable_bytes r.key) v,
      length-append (nullable_bytes r.value) e,
    ) in (
      int_bytes w8 (pos 0),
      t,
      (refl, refl),
      (
        varlong_bytes (pos 0),
        d,
        varlong_spells (pos 0) (omega arith),
        (
          varint_bytes (pos delta),
          k,
          small_spells delta few,
          (
            nullable_bytes r.key,
            v,
            nullable_spells r.key key,
            (nullable_bytes r.value, e, nullable_spells r.value value, no_headers, refl),
            refl,
          ),
          refl,
        ),
        refl,
      ),
      refl,
    )

record_spells : (delta : ℕ) (r : Rec) → delta < 2 ^ 31 → length (record_bytes delta r) < 2 ^ 31 → IsRecord (record_bytes delta r) (record_of delta r)
unfolding record_bytes
record_spells delta r few small =
    let body = body_bytes delta r in
    let front = varint_bytes (pos (length body)) in
    let below : length body < 2 ^ 31 = omega (arith, length-append front body) in
    (front, body, small_spells (length body) below, body_spells delta r few below, refl)

pub records_spell : (delta : ℕ) (records : List Rec) → delta + length records < 2 ^ 31 → length (records_bytes delta records) < 2 ^ 31 →
    AreMany IsRecord (records_bytes delta records) (records_from delta records)
unfolding records_bytes
records_spell delta [] few small = refl
records_spell delta (r ∷ records) few small =
    let first = record_bytes delta r in
    let rest = records_bytes (delta + 1) records in
    (first, rest, record_spells delta r (omega arith) (omega (arith, length-append first rest)), records_spell (delta + 1) records (omega arith) (omega (arith, length-append first rest)), refl)

length-record_of : (delta : ℕ) (records : List Rec) → length (records_from delta records) ≡ length records
length-record_of delta [] = refl
length-record_of delta (r ∷ records) = ap suc (length-record_of (delta + 1) records)

-- the deltas count up
counts : (last : ℤ) (delta : ℕ) (records : List Rec) → Follow Produced last (pos delta) (records_from delta records)
counts last delta [] = tt
counts last delta (r ∷ records) = (refl, counts last (delta + 1) records)

-- a small number in four bytes
int_again : (n : ℕ) → n < 2 ^ 31 → cast_signed w32 (from_be_bytes w32 (int_bytes w32 (pos n))) ≡ pos n
int_again n h = ap (cast_signed w32) (from_be_bytes-to_be_bytes_4 n (omega arith)) ∙ to_z_pos w32 (omega arith)

length-checked : (records : List Rec) → length (checked_bytes records) ≡ 40 + length (records_bytes 0 records)
unfolding checked_bytes
length-checked records = omega arith

pub length-batch : (records : List Rec) → length (batch_bytes records) ≡ 61 + length (records_bytes 0 records)
unfolding batch_bytes checked_bytes
length-batch records = omega arith

last-written : (records : List Rec) → length records < 2 ^ 31 → last_offset_delta (batch_bytes records) ≡ pos (length records - 1)
unfolding batch_bytes checked_bytes
last-written records h = int_again (length records - 1) (omega arith)

base-written : (records : List Rec) → base_offset (batch_bytes records) ≡ pos 0
unfolding batch_bytes
base-written records = refl

-- the last delta is one less than the number of records
last-next : (records : List Rec) → 0 < length records → length records < 2 ^ 31 → last_offset_delta (batch_bytes records) +ℤ pos 1 ≡ pos (length (records_from 0 records))
last-next records some few =
    let one : length records - 1 + 1 ≡ length (records_from 0 records) = omega (arith, length-record_of 0 records) in
    ap (λ z. z +ℤ pos 1) (last-written records few) ∙ ap (λ n. pos n) one

offsets_written : (form : Form) (records : List Rec) → 0 < length records → length records < 2 ^ 31 → HasOffsets form (batch_bytes records) (records_from 0 records)
offsets_written Produced records some few =
    ((omega (arith, length-record_of 0 records), last-next records some few), counts (last_offset_delta (batch_bytes records)) 0 records)
offsets_written Stored records some few =
    let last = last_offset_delta (batch_bytes records) in
    let sum : (pos 0 +ℤ pos (length records - 1)) <ℤ pos (2 ^ 62) = omega (arith, ints) in
    let none : 0 + length (records_from 0 records) ≡ length (records_from 0 records) = omega arith in (
      (
        subst (λ z. pos 0 ≤ℤ z) (sym (last-written records few)) (omega (arith, ints)),
        subst (λ z. pos 0 ≤ℤ z) (sym (base-written records)) (omega (arith, ints)),
        subst (λ z. (z +ℤ last) <ℤ pos (2 ^ 62)) (sym (base-written records)) (subst (λ z. (pos 0 +ℤ z) <ℤ pos (2 ^ 62)) (sym (last-written records few)) sum),
      ),
      counts_rise (records_from 0 records) (pos 0) last (ap (λ n. pos n) none ∙ sym (last-next records some few)) (counts last 0 records),
    )

pub batch_spells : (form : Form) (records : List Rec) → 0 < length records → length (batch_bytes records) ≤ max_size →
    crc_of (checked_bytes records) < 2 ^ 32 → IsBatch form (batch_bytes records) (records_from 0 records)
unfolding batch_bytes checked_bytes
batch_spells form records some size crc =
    let small : length (records_bytes 0 records) < 2 ^ 30 = omega (arith, length-batch records) in
    let few : length records < 2 ^ 30 = omega (arith, records_many 0 records) in
    let total : 9 + length (checked_bytes records) + 12 ≡ length (batch_bytes records) = omega (arith, length-checked records, length-batch records) in
    record {
      size = size;
      header = omega (arith, length-batch records);
      whole = ap (λ z. z +ℤ pos 12) (int_again (9 + length (checked_bytes records)) (omega (arith, length-checked records))) ∙ ap (λ n. pos n) total;
      version = refl;
      intact = from_be_bytes-to_be_bytes_4 (crc_of (checked_bytes records)) crc;
      uncompressed = refl;
      no_transaction = refl;
      no_control = refl;
      no_producer = refl;
      content = (int_again (length records) (omega arith) ∙ ap (λ n. pos n) (sym (length-record_of 0 records)), records_spell 0 records (omega arith) (omega arith));
      offsets = offsets_written form records some (omega arith);
    }

-- few records, in few bytes
pub few_records : (records : List Rec) → length (batch_bytes records) ≤ max_size → length records < 2 ^ 31
few_records records h = omega (arith, length-batch records, records_many 0 records)

pub few_bytes : (records : List Rec) → length (batch_bytes records) ≤ max_size → length (records_bytes 0 records) < 2 ^ 31
few_bytes records h = omega (arith, length-batch records)

pub stands_from : (records : List Rec) (result : Result (List ℕ) NoMemory) → 0 < length records → length (batch_bytes records) ≤ max_size →
    IfOk result (λ batch. batch ≡ batch_bytes records) → IfOk result (λ batch. crc_of (checked_bytes records) < 2 ^ 32)
    → IfOk result (λ batch. (form : Form) → IsBatch form batch (records_from 0 records))
stands_from records (Ok batch) some size value crc = λ form. subst (λ l. IsBatch form l (records_from 0 records)) (sym value) (batch_spells form records some size crc)
stands_from records (Err e) some size value crc = tt
