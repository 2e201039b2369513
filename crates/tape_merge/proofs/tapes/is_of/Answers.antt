use Rattle.std.proofs.Common.{◌∙◌, Some, ap, sym, option_map}
use Rattle.std.proofs.lemmas.Bool.{false≢true}
use Rattle.std.proofs.lemmas.Option.{none-some, same_Some}
use Rattle.share_record.specs.declared.tape.ShardTape.{ShardTape}
use Rattle.tape_merge.proofs.tapes.is_of.Goals as goal

pub returns-in-Some : goal.returns-in-Some
returns-in-Some c =
    let same = ap (λ o. option_map (λ (t : ShardTape). t.shard) o) (sym c.in-Some.ensures.is) in
    ((λ holds. same ∙ ap (λ x. Some x) (c.is_same.ensures.0 holds)), (λ h. c.is_same.ensures.1 (same_Some c.in-Some.of.now.shard c.args.shard (sym same ∙ h))))

pub returns-in-None : goal.returns-in-None
returns-in-None c =
    ((λ fails. absurd (false≢true fails)), (λ h. absurd (none-some c.args.shard (ap (λ o. option_map (λ (t : ShardTape). t.shard) o) c.in-None.ensures.is ∙ h))))
