use Rattle.std.proofs.Common.{◌∙◌, List, ℕ, length, ap, sym, arith, rules, SFits, w64}
use Rattle.std.specs.Prelude.{unsigned_abs, slice_index}
use Rattle.std.proofs.lemmas.Int.{to_z-of_z}
use Rattle.share_model.specs.Acks.{kind_of}
use Rattle.ack_ranges.proofs.Spans.{many_span, many_below, not_one}
use Rattle.ack_ranges.proofs.walk.span_at.Goals as goal

pub returns-clause-span : goal.returns-clause-span
returns-clause-span c =
    let batch = c.args.batch.now in
    let fits : SFits w64 batch.first = search rules in
    many_span batch c.args.place _ c.sound_kind-kind.result
    (not_one (length batch.types) (λ one. c.if-types-eq1.false (ap length c.as_slice-types.ensures ∙ one))) (omega arith)
    (ap unsigned_abs (to_z-of_z w64 batch.first fits))
    (ap (λ (l : List ℕ). kind_of (slice_index l c.args.place)) (sym c.as_slice-types.ensures) ∙ c.sound_kind-kind.ensures)

pub returns-clause-below : goal.returns-clause-below
returns-clause-below c =
    let batch = c.args.batch.now in
    let fits : SFits w64 batch.first = search rules in
    let fits_last : SFits w64 batch.last = search rules in
    many_below batch c.args.place _ c.requires.sound (not_one (length batch.types) (λ one. c.if-types-eq1.false (ap length c.as_slice-types.ensures ∙ one)))
    (omega arith) fits_last (ap unsigned_abs (to_z-of_z w64 batch.first fits))
