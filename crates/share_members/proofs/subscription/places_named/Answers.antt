use Rattle.std.proofs.Common.{◌≡◌, ◌++◌, sym, ap, ◌∙◌, subst}
use Rattle.std.proofs.lemmas.List.{append-nil, nil_from_length}
use Rattle.std.specs.Ordering.{nat_cmp}
use Rattle.std.specs.List.Sorted.{IsStrictlySortedBy}
use Rattle.share_members.specs.Heartbeats.{places_named}
use Rattle.share_members.proofs.Whole.{rising_named}
use Rattle.share_members.proofs.subscription.places_named.Goals as goal

pub new-requires-2 : goal.new-requires-2
new-requires-2 c =
    let names = c.args.names.now in
    let done = c.loop-topic.places.items in
    let empty = nil_from_length c.loop-topic.rest.now c.in_default.ensures.cases in
    let whole : c.new.result ≡ places_named names 0 c.args.topics.now = c.new.ensures.items ∙ sym (append-nil done)
    ∙ ap (λ rest. done ++ places_named names c.loop-topic.place rest) (sym empty) ∙ c.loop-topic.invariant.so_far in
    subst (λ places. IsStrictlySortedBy nat_cmp places) (sym whole) (rising_named names 0 c.args.topics.now)
