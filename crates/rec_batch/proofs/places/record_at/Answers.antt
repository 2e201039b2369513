use Rattle.std.proofs.Common.{◌≡◌, ◌∙◌, ◌-◌, ◌<ℤ◌, ℤ, refl, sym, ap, subst, pos, length, arith, to_z, of_z, w32, Some, None, MatchOption}
use Rattle.std.proofs.Math.Facts.{to_z-of_z}
use Rattle.rec_batch.specs.Batches.{at_least_zero}
use Rattle.rec_batch.specs.Pieces.{pieces_in}
use Rattle.rec_batch.proofs.RecordPlaces.{behind_within, delta_shown, left_before, read_is, shows, splits_more, splits_most, splits_next}
use Rattle.rec_batch.proofs.places.record_at.Goals as goal

pub split_at-requires : goal.split_at-requires
split_at-requires c = let s = c.requires.begins in let lt = splits_more c.args.bytes.now c.args.place s.0 s.2 s.1 s.3 in omega (arith, lt)

pub unreachable-requires : goal.unreachable-requires
unreachable-requires c =
    let s = c.requires.begins in
    let read = read_is c.args.bytes.now c.args.place s.0 s.2 s.1 s.3 in
    let never : None ≡ Some read.0 = sym c.in_default.is ∙ c.read_pieces.ensures ∙ ap pieces_in c.split_at.ensures.back ∙ read.1 in cc

pub overflow_sub-next : goal.overflow_sub-next
overflow_sub-next c =
    let s = c.requires.begins in
    behind_within c.args.bytes.now c.args.place s.0 s.2 s.1 s.3 c.in-Some.found (sym (c.read_pieces.ensures ∙ ap pieces_in c.split_at.ensures.back) ∙ c.in-Some.is)

pub overflow_cast-found : goal.overflow_cast-found
overflow_cast-found c =
    let s = c.requires.begins in
    let most = splits_most c.args.bytes.now c.args.place s.0 s.2 s.1 s.3 in
    let left = left_before c.args.bytes.now c.args.place s.0 s.2 s.1 s.3 c.in-Some.found (sym (c.read_pieces.ensures ∙ ap pieces_in c.split_at.ensures.back) ∙ c.in-Some.is) in
    omega (arith, most, left)

pub overflow_sub-next-2 : goal.overflow_sub-next-2
overflow_sub-next-2 c =
    let s = c.requires.begins in
    let left = left_before c.args.bytes.now c.args.place s.0 s.2 s.1 s.3 c.in-Some.found (sym (c.read_pieces.ensures ∙ ap pieces_in c.split_at.ensures.back) ∙ c.in-Some.is) in
    omega (arith, left)

pub returns-clause-delta : goal.returns-clause-delta
returns-clause-delta c =
    let same : to_z w32 (of_z w32 c.in-Some.found.delta) ≡ c.in-Some.found.delta = grind (arith, to_z-of_z) in
    λ before behind r h. ap (λ n. pos n) (c.from_zero.ensures ∙ ap at_least_zero same)
    ∙ delta_shown c.args.bytes.now c.args.place before behind r h c.in-Some.found (sym (c.read_pieces.ensures ∙ ap pieces_in c.split_at.ensures.back) ∙ c.in-Some.is)

pub returns-clause-value : goal.returns-clause-value
returns-clause-value c =
    let same : to_z w32 (of_z w32 c.in-Some.found.len) ≡ c.in-Some.found.len = grind (arith, to_z-of_z) in
    λ before behind r h.
    shows c.args.bytes.now c.args.place before behind r h c.in-Some.found (sym (c.read_pieces.ensures ∙ ap pieces_in c.split_at.ensures.back) ∙ c.in-Some.is)
    (length c.args.bytes.now - c.in-Some.found.behind) refl
    (record { delta = c.from_zero.result; value = c.value_at.result; next = length c.args.bytes.now - c.in-Some.found.behind }) refl
    (subst (λ (z : ℤ). MatchOption c.value_at.result (z <ℤ pos 0)
    (λ v. (v.0 ≡ (length c.args.bytes.now - c.in-Some.found.behind) - c.in-Some.found.left) × (pos v.1 ≡ z))) same c.value_at.ensures)

pub returns-clause-next : goal.returns-clause-next
returns-clause-next c = λ before behind r h.
    splits_next c.args.bytes.now c.args.place before behind r h c.in-Some.found (sym (c.read_pieces.ensures ∙ ap pieces_in c.split_at.ensures.back) ∙ c.in-Some.is) _ refl
