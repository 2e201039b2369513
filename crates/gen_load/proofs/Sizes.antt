-- The batch of a round is small.
use Rattle.std.proofs.Common.{◌≡◌, ℕ, zero, suc, ◌+◌, ◌*◌, ◌^◌, ◌<◌, ◌≤◌, length, replicate, None, Some, refl, arith, length-append}
use Rattle.std.specs.Prelude.{pos}
use Rattle.std.specs.Fmt.{decimal}
use Rattle.std.proofs.lemmas.Fmt.{length-decimal-le}
use Rattle.flex_fields.specs.Writing.{groups_of, varint_bytes}
use Rattle.flex_fields.proofs.Written.{varint_spells}
use Rattle.rec_batch.specs.declared.rec.Rec.{Rec}
use Rattle.rec_batch.specs.Written.{batch_bytes, body_bytes, nullable_bytes, record_bytes, records_bytes}
use Rattle.rec_batch.proofs.WrittenSizes.{body_size, record_length, records_length}
use Rattle.rec_batch.proofs.Spelled.{length-batch}
use Rattle.gen_load.specs.Frames.{batch_size, records_of}

abbrev the_record : ℕ → Rec
the_record round = record { key = None; value = Some (decimal round) }

no_key : length (nullable_bytes None) ≡ 1
unfolding nullable_bytes groups_of
no_key = refl

varint_few : (n : ℕ) → n < 2 ^ 31 → length (varint_bytes (pos n)) ≤ 5
varint_few n small = (varint_spells (pos n) (omega arith)).1.1

value_few : (round : ℕ) → round < 2 ^ 32 → length (nullable_bytes (Some (decimal round))) ≤ 15
unfolding nullable_bytes
value_few round small =
    let few : length (decimal round) ≤ 10 = length-decimal-le 10 round (omega arith) (omega (arith, small)) (omega (arith, small)) in
    omega (arith, few, varint_few (length (decimal round)) (omega (arith, few)), length-append (varint_bytes (pos (length (decimal round)))) (decimal round))

record_few : (delta round : ℕ) → delta < 2 ^ 31 → round < 2 ^ 32 → length (record_bytes delta (the_record round)) ≤ 42
record_few delta round d small =
    let body : length (body_bytes delta (the_record round)) ≤ 37 = omega (arith, (body_size delta (the_record round) d).1, no_key, value_few round small) in
    omega (arith, body, record_length delta (the_record round), varint_few (length (body_bytes delta (the_record round))) (omega (arith, body)))

records_few : (n delta round : ℕ) → delta + n < 2 ^ 31 → round < 2 ^ 32 → length (records_bytes delta (replicate n (the_record round))) ≤ 42 * n
unfolding records_bytes
records_few zero delta round d small = omega arith
records_few (suc n) delta round d small =
    omega (
      arith,
      records_length delta (replicate (suc n) (the_record round)) (replicate n (the_record round)) (the_record round) refl,
      record_few delta round (omega (arith, d)) small,
      records_few n (delta + 1) round (omega (arith, d)) small,
    )

pub batch_small : (round : ℕ) → round < 2 ^ 32 → length (batch_bytes (records_of round)) ≤ 1048588
batch_small round small =
    omega (arith, length-batch (records_of round), records_few (batch_size round) 0 round (omega arith) small)
