use Rattle.std.proofs.Common.{◌∙◌, IsSome, slice_get, ap, subst, sym}
use Rattle.std.proofs.lemmas.Option.{IfSome_then}
use Rattle.tape_merge.specs.Matching.{shard_in, steps_in}
use Rattle.tape_merge.specs.Sightings.{AreNamed}
use Rattle.tape_merge.proofs.Seeing.{named_all, none_named}
use Rattle.tape_merge.proofs.Steadies.{if_none}
use Rattle.tape_merge.proofs.matching.unnamed_of.Goals as goal

pub returns-in_default-clause-none : goal.returns-in_default-clause-none
returns-in_default-clause-none c = none_named c.args.links.now c.args.named.now.keys c.args.link c.in_default.ensures.is

pub returns-clause-none : goal.returns-clause-none
returns-clause-none c =
    let same = c.as_slice.ensures ∙ ap (λ o. steps_in o) c.in-Some.ensures.is in
    if_none c.unnamed_in-found.result c.unnamed_in-found.ensures.none
    (λ all step some. named_all c.as_slice.result.now c.args.named.now.keys c.args.link all step (subst (λ x. IsSome (shard_in (slice_get x step))) (sym same) some))

pub returns-clause-some : goal.returns-clause-some
returns-clause-some c =
    let same = c.as_slice.ensures ∙ ap (λ o. steps_in o) c.in-Some.ensures.is in
    IfSome_then c.unnamed_in-found.result c.unnamed_in-found.ensures.some (λ at h. (subst (λ x. IsSome (shard_in (slice_get x at))) same h.0, h.1))

pub returns-clause-first : goal.returns-clause-first
returns-clause-first c =
    let same = c.as_slice.ensures ∙ ap (λ o. steps_in o) c.in-Some.ensures.is in
    IfSome_then c.unnamed_in-found.result c.unnamed_in-found.ensures.first (λ at h. subst (λ x. AreNamed x c.args.named.now.keys c.args.link at) same h)
