use Rattle.std.proofs.Common.{◌∙◌}
use Rattle.share_client.proofs.reader.sought.Goals as goal

pub stepped-requires : goal.stepped-requires
stepped-requires c = let r = c.requires in let i = c.loop-next.invariant r.0 r.1 in (i.0, i.1)

pub loop-next-preserved : goal.loop-next-preserved
loop-next-preserved c = λ records l.
    let i = c.loop-next.invariant records l in
    let s = c.in-Some.ensures.some i.0 i.1 in
    (s.0, s.1, i.2 ∙ s.2)
