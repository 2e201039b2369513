use Rattle.std.proofs.Common.{◌≡◌, ◌∙◌, Some, None, length, ap, sym, refl, arith, rules}
use Rattle.std.proofs.lemmas.Option.{slice_get_read}
use Rattle.std.specs.Prelude.{position, is_none}
use Rattle.share_model.specs.Acks.{kind_of}
use Rattle.ack_ranges.specs.Batches.{HasRange, HasCount}
use Rattle.ack_ranges.specs.Faults.{IsSortedAt}
use Rattle.ack_ranges.proofs.Faults.{well_more, kinds_good, bad_within, types_of}
use Rattle.ack_ranges.proofs.judge.judge_at.Goals as goal

pub overflow_cast-result : goal.overflow_cast-result
overflow_cast-result c =
    let batch = c.index-batches-number.result in
    let at : Some c.in-Some.index ≡ position (λ n. is_none (kind_of n)) batch.types = c.in-Some.ensures ∙ ap (position (λ n. is_none (kind_of n))) c.as_slice.ensures in
    omega (arith, bad_within batch.types c.in-Some.index (sym at), types_of c.args.batches.now c.args.number batch c.index-batches-number.is c.requires.within)

pub returns-in-Some-clause-err : goal.returns-in-Some-clause-err
returns-in-Some-clause-err c =
    let batch = c.index-batches-number.result in
    let range : HasRange batch = search rules in
    let sorted : IsSortedAt c.args.batches.now c.args.number batch = search rules in
    let count : HasCount batch = search rules in
    let at : Some c.in-Some.index ≡ position (λ n. is_none (kind_of n)) batch.types = c.in-Some.ensures ∙ ap (position (λ n. is_none (kind_of n))) c.as_slice.ensures in
    (batch, slice_get_read c.args.batches.now (length c.args.batches.now) c.args.number batch refl c.requires.within c.index-batches-number.is, c.requires.before, (range, sorted, count, sym at))

pub returns-in-None-clause-ok : goal.returns-in-None-clause-ok
returns-in-None-clause-ok c =
    let batch = c.index-batches-number.result in
    let range : HasRange batch = search rules in
    let sorted : IsSortedAt c.args.batches.now c.args.number batch = search rules in
    let count : HasCount batch = search rules in
    let none : None ≡ position (λ n. is_none (kind_of n)) batch.types = c.in-None.ensures ∙ ap (position (λ n. is_none (kind_of n))) c.as_slice.ensures in
    well_more c.args.batches.now c.args.number batch c.requires.before
    (slice_get_read c.args.batches.now (length c.args.batches.now) c.args.number batch refl c.requires.within c.index-batches-number.is)
    (record { range = range; count = count; kinds = kinds_good batch.types (sym none) }) sorted
