use Rattle.std.proofs.Common.{◌∙◌, Some, ap, subst, sym}
use Rattle.tape_merge.specs.Moves.{IsAlone}
use Rattle.tape_merge.proofs.Counting.{alone_names}
use Rattle.tape_merge.proofs.Seeing.{seen_other}
use Rattle.tape_merge.proofs.matching.see.Goals as goal

pub returns-in-Part : goal.returns-in-Part
returns-in-Part c = λ tapes upto count of is h. c.in_ok-see_part-in-Part.ensures tapes upto count of (is ∙ ap (λ t. Some t) c.in-Part.is) h

pub returns-in-Expire : goal.returns-in-Expire
returns-in-Expire c = λ tapes upto count of is h.
    seen_other tapes c.args.links.now upto count c.args.seen.now.named.keys c.args.seen.now.least h c.args.tag.now is
    (λ l s. alone_names c.args.tag.now l s (subst (λ t. IsAlone t) (sym c.in-Expire.is) tt))

pub returns-in-Tick : goal.returns-in-Tick
returns-in-Tick c = λ tapes upto count of is h.
    seen_other tapes c.args.links.now upto count c.args.seen.now.named.keys c.args.seen.now.least h c.args.tag.now is
    (λ l s. alone_names c.args.tag.now l s (subst (λ t. IsAlone t) (sym c.in-Tick.is) tt))

pub returns-in-Offer : goal.returns-in-Offer
returns-in-Offer c = λ tapes upto count of is h.
    seen_other tapes c.args.links.now upto count c.args.seen.now.named.keys c.args.seen.now.least h c.args.tag.now is
    (λ l s. alone_names c.args.tag.now l s (subst (λ t. IsAlone t) (sym c.in-Offer.is) tt))
