use Rattle.std.proofs.Common.{◌∙◌, Some, ap, sym}
use Rattle.std.proofs.lemmas.Bool.{false≢true}
use Rattle.std.proofs.lemmas.Option.{none-some, same_Some}
use Rattle.tape_merge.proofs.tapes.asks.Goals as goal

pub returns-in-Some : goal.returns-in-Some
returns-in-Some c =
    ((λ holds. sym c.in-Some.ensures ∙ ap (λ x. Some x) (c.is_same.ensures.0 holds)), (λ h. c.is_same.ensures.1 (same_Some c.in-Some.asked c.args.shard (c.in-Some.ensures ∙ h))))

pub returns-in-None : goal.returns-in-None
returns-in-None c = ((λ fails. absurd (false≢true fails)), (λ h. absurd (none-some c.args.shard (c.in-None.ensures ∙ h))))
