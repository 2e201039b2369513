use Rattle.std.proofs.Common.{◌∙◌, ap, slice_get}
use Rattle.tape_merge.specs.Matching.{shard_in, steps_in}
use Rattle.tape_merge.proofs.tapes.shard_asked.Goals as goal

pub returns-in-Some : goal.returns-in-Some
returns-in-Some c =
    c.shard_in.ensures
    ∙ (ap (λ x. shard_in (slice_get x c.args.step)) c.as_slice.ensures ∙ ap (λ o. shard_in (slice_get (steps_in o) c.args.step)) c.in-Some.ensures.is)

pub returns-in-None : goal.returns-in-None
returns-in-None c = ap (λ o. shard_in (slice_get (steps_in o) c.args.step)) c.in-None.ensures.is
