use Rattle.std.proofs.Common.{refl}
use Rattle.tape_merge.proofs.Seeing.{all_found, these_found}
use Rattle.tape_merge.proofs.matching.first_unmatched.Goals as goal

pub returns-in_default : goal.returns-in_default
returns-in_default c =
    all_found c.args.tapes.now c.args.links.now c.in_ok-seen.seen.named.keys c.in_ok-seen.seen.least c.in_ok-seen.ensures c.in_default.ensures.none
    c.in_ok-seen.seen.least refl

pub returns : goal.returns
returns c =
    these_found c.args.tapes.now c.args.links.now c.in_ok-seen.seen.named.keys c.in_ok-seen.seen.least c.in_ok-seen.ensures c.in-Some.place c.in-Some.ensures.some
    c.in-Some.ensures.before c.in-Some.ensures.first c.lesser-least.result c.lesser-least.ensures.less c.lesser-least.ensures.which c.lesser-least.ensures.some
