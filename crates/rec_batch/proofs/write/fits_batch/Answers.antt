use Rattle.std.proofs.Common.{◌≡◌, ◌+◌, length, refl, ap, ◌∙◌, arith}
use Rattle.rec_batch.specs.Written.{records_bytes}
use Rattle.rec_batch.proofs.WrittenSizes.{no_length, record_some, records-nil, records_length}
use Rattle.rec_batch.proofs.Spelled.{length-batch}
use Rattle.rec_batch.proofs.write.fits_batch.Goals as goal

pub returns-in_default-room_after : goal.returns-in_default-room_after
returns-in_default-room_after c =
    let parts = records_length c.loop-first.delta c.loop-first.rest.now c.in-Some.others.now c.in-Some.first.now c.in-Some.ensures.cases.0 in (
      λ h. absurd (let never : ⊥ = cc in never),
      λ h. absurd (omega (arith, h, parts, c.loop-first.invariant.whole, c.in_default-room_after.ensures, length-batch c.args.records.now)),
    )

pub loop-first-preserved : goal.loop-first-preserved
loop-first-preserved c =
    let parts = records_length c.loop-first.delta c.loop-first.rest.now c.in-Some.others.now c.in-Some.first.now c.in-Some.ensures.cases.0 in
    let whole : length (records_bytes 0 c.args.records.now) + c.in-Some-room_after.left ≡ 1048527 + length (records_bytes (c.loop-first.delta + 1) c.in-Some.others.now) =
    omega (arith, parts, c.loop-first.invariant.whole, c.in-Some-room_after.ensures) in
    record { whole = whole; few = omega (arith, c.loop-first.invariant.few, c.in-Some-room_after.ensures, record_some c.loop-first.delta c.in-Some.first.now) }

pub returns : goal.returns
returns c =
    let none : length (records_bytes c.loop-first.delta c.loop-first.rest.now) ≡ 0 =
    ap (λ l. length (records_bytes c.loop-first.delta l)) (no_length c.loop-first.rest.now c.in_default.ensures.cases) ∙ ap length (records-nil c.loop-first.delta) in
    (λ h. omega (arith, none, c.loop-first.invariant.whole, length-batch c.args.records.now), λ h. refl)
