-- On lists.
use Rattle.std.proofs.Common.{◌≡◌, ◌<◌, ◌+◌, ◌∙◌, ℕ, List, ◌++◌, Option, length, map, drop, get_or, sym, ap, append_assoc}
use Rattle.std.specs.List.{filter_map, flat_map}
use Rattle.std.proofs.lemmas.List.{map-append}
use Rattle.std.proofs.lemmas.List.Elements.{filter_map-append}
use Rattle.share_session.proofs.Lists.{drop_item}

-- what a function finds in groups is put behind a list, one group on
pub pushed_group : {R E T X : Type 0} (put : R → E) (find : X → Option R) (items : T → List X) (ts : List T) (i : ℕ) (t : T) (old new all : List E) →
    i < length ts → t ≡ get_or ts i t → new ≡ old ++ map put (filter_map find (items t)) →
    old ++ map put (filter_map find (flat_map items (drop i ts))) ≡ all → new ++ map put (filter_map find (flat_map items (drop (i + 1) ts))) ≡ all
pushed_group put find items ts i t old new all within is step h =
    let rest = flat_map items (drop (i + 1) ts) in
    let first = filter_map find (items t) in
    ap (λ l. l ++ map put (filter_map find rest)) step
    ∙ append_assoc old (map put first) (map put (filter_map find rest))
    ∙ ap (λ l. old ++ l) (sym (map-append put first (filter_map find rest)))
    ∙ ap (λ l. old ++ map put l) (sym (filter_map-append find (items t) rest))
    ∙ ap (λ l. old ++ map put (filter_map find (flat_map items l))) (sym (drop_item ts i t within is))
    ∙ h
