use Rattle.std.proofs.Common.{◌≡◌, ◌<◌, ◌∙◌, length, slice_get, ap, refl, arith}
use Rattle.std.proofs.lemmas.Option.{slice_get_read}
use Rattle.tape_merge.proofs.Seeing.{seen_tape}
use Rattle.tape_merge.proofs.matching.see_tags.Goals as goal

pub loop-tag-init : goal.loop-tag-init
loop-tag-init c = λ tapes upto of is h. h

pub loop-tag-preserved : goal.loop-tag-preserved
loop-tag-preserved c = λ tapes upto of is h.
    let i = c.loop-tag.tag-index in
    let within : i < length c.args.tags.now = omega arith in
    let there = ap (λ x. slice_get x i) is ∙ slice_get_read c.args.tags.now (length c.args.tags.now) i c.tag-item.result refl within c.tag-item.is in
    c.in_ok-see.ensures tapes upto i of there (c.loop-tag.invariant tapes upto of is h)

pub returns : goal.returns
returns c = λ tapes upto of is h.
    let all : c.loop-tag.tag-index ≡ length c.args.tags.now = omega arith in
    seen_tape tapes c.args.links.now upto c.loop-tag.tag-index c.loop-tag.seen.named.keys c.loop-tag.seen.least (c.loop-tag.invariant tapes upto of is h)
    (omega (arith, all, ap length is))
