use Rattle.std.proofs.Common.{◌∙◌, Some, ap, subst, sym}
use Rattle.std.proofs.lemmas.Option.{none-some, same_Some}
use Rattle.share_record.specs.declared.tag.Tag.TheVariants.{Part}
use Rattle.tape_merge.specs.Moves.{IsAlone}
use Rattle.tape_merge.proofs.Counting.{alone_names}
use Rattle.tape_merge.proofs.moves.link_named.Goals as goal

pub returns-in_default-clause-none : goal.returns-in_default-clause-none
returns-in_default-clause-none c = λ link named. none-some (Part link named.0) (c.in_default.ensures.is ∙ named.1)

pub returns-in-Part-clause-some : goal.returns-in-Part-clause-some
returns-in-Part-clause-some c = (_, sym c.in-Some.ensures.is ∙ ap (λ t. Some t) c.in-Part.is)

pub returns-in-Expire-clause-none : goal.returns-in-Expire-clause-none
returns-in-Expire-clause-none c = λ link named.
    alone_names c.in-Some.tag.now link named.0 (subst (λ t. IsAlone t) (sym c.in-Expire.is) tt) (same_Some c.in-Some.tag.now (Part link named.0) (c.in-Some.ensures.is ∙ named.1))

pub returns-in-Tick-clause-none : goal.returns-in-Tick-clause-none
returns-in-Tick-clause-none c = λ link named.
    alone_names c.in-Some.tag.now link named.0 (subst (λ t. IsAlone t) (sym c.in-Tick.is) tt) (same_Some c.in-Some.tag.now (Part link named.0) (c.in-Some.ensures.is ∙ named.1))

pub returns-in-Offer-clause-none : goal.returns-in-Offer-clause-none
returns-in-Offer-clause-none c = λ link named.
    alone_names c.in-Some.tag.now link named.0 (subst (λ t. IsAlone t) (sym c.in-Offer.is) tt) (same_Some c.in-Some.tag.now (Part link named.0) (c.in-Some.ensures.is ∙ named.1))
