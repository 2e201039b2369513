use Rattle.std.proofs.Common.{◌≡◌, ◌+◌, ◌<◌, ◌≤◌, ◌∙◌, ℕ, List, Some, None, sym, ap, subst, length, take, arith, to_z, of_z, w32, w64, refl}
use Rattle.std.specs.Prelude.{Option}
use Rattle.std.proofs.Math.Facts.{to_z-of_z}
use Rattle.rec_batch.specs.Batches.{at_least_zero}
use Rattle.rec_batch.specs.Fields.{base_offset, record_count}
use Rattle.share_client.specs.Spans.{IsSized}
use Rattle.share_client.proofs.Reading.{is_sized, long_enough, opened_left, opened_shorter}
use Rattle.share_client.proofs.reader.opened.Goals as goal

pub unreachable-requires : goal.unreachable-requires
unreachable-requires c =
    let l = c.requires.batches in
    is_sized c.args.reader c.requires.end c.requires.more l.0 l.1 (subst (λ (o : Option ℕ). IsSized c.args.reader.rest.now o) c.in_default.is c.size_in.ensures)

pub signed_base-requires : goal.signed_base-requires
signed_base-requires c =
    let l = c.requires.batches in
    let s = subst (λ (o : Option ℕ). IsSized c.args.reader.rest.now o) c.in-Some.is c.size_in.ensures in
    subst (λ (x : List ℕ). 61 ≤ length x) (sym c.split_at.ensures.front) (long_enough c.args.reader c.requires.end c.requires.more c.in-Some.size s l.0 l.1)

pub signed_count-requires : goal.signed_count-requires
signed_count-requires c =
    let l = c.requires.batches in
    let s = subst (λ (o : Option ℕ). IsSized c.args.reader.rest.now o) c.in-Some.is c.size_in.ensures in
    subst (λ (x : List ℕ). 61 ≤ length x) (sym c.split_at.ensures.front) (long_enough c.args.reader c.requires.end c.requires.more c.in-Some.size s l.0 l.1)

pub returns-clause-same : goal.returns-clause-same
returns-clause-same c =
    let s = subst (λ (o : Option ℕ). IsSized c.args.reader.rest.now o) c.in-Some.is c.size_in.ensures in
    let base_same : to_z w64 (of_z w64 c.signed_base.result) ≡ c.signed_base.result = grind (arith, to_z-of_z) in
    let count_same : to_z w32 (of_z w32 c.signed_count.result) ≡ c.signed_count.result = grind (arith, to_z-of_z) in
    λ records l. opened_left c.args.reader c.requires.end c.requires.more c.in-Some.size s records l _ c.split_at.ensures.front c.split_at.ensures.back refl
    (c.from_zero-base.ensures.is ∙ ap at_least_zero (base_same ∙ (c.signed_base.ensures ∙ ap base_offset c.split_at.ensures.front)))
    (c.count_from_zero-left.ensures ∙ ap at_least_zero (count_same ∙ (c.signed_count.ensures ∙ ap record_count c.split_at.ensures.front)))

pub returns-clause-shorter : goal.returns-clause-shorter
returns-clause-shorter c =
    let l = c.requires.batches in
    let s = subst (λ (o : Option ℕ). IsSized c.args.reader.rest.now o) c.in-Some.is c.size_in.ensures in
    let count_same : to_z w32 (of_z w32 c.signed_count.result) ≡ c.signed_count.result = grind (arith, to_z-of_z) in
    subst (λ (x : List ℕ). length x + c.count_from_zero-left.result < length c.args.reader.rest.now) (sym c.split_at.ensures.back)
    (opened_shorter c.args.reader c.requires.end c.requires.more c.in-Some.size s l.0 l.1 c.count_from_zero-left.result
    (c.count_from_zero-left.ensures ∙ ap at_least_zero (count_same ∙ (c.signed_count.ensures ∙ ap record_count c.split_at.ensures.front))))
