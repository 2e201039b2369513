use Rattle.std.proofs.Common.{◌∙◌, ap, sym, option_map}
use Rattle.share_record.specs.declared.tape.ShardTape.{ShardTape}
use Rattle.tape_merge.specs.Matching.{tags_in}
use Rattle.tape_merge.proofs.matching.see_tape.Goals as goal

pub returns : goal.returns
returns c =
    c.in_ok-see_tags.ensures c.args.tapes.now c.args.tape (ap (λ o. option_map (λ (t : ShardTape). t.shard) o) (sym c.in-Some.ensures.is))
    (ap (λ o. tags_in o) (sym c.in-Some.ensures.is) ∙ sym c.as_slice.ensures)
