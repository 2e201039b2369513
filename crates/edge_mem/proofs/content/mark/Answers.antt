use Rattle.std.proofs.Common.{◌-◌, refl, ap, arith}
use Rattle.edge_mem.specs.declared.change.Step.{Step}
use Rattle.edge_mem.proofs.Marks.{marked}
use Rattle.edge_mem.proofs.content.mark.Goals as goal

pub returns-then-len-gt0 : goal.returns-then-len-gt0
returns-then-len-gt0 c = marked _ (c.len-len.result - 1) _ c.index_mut.result.now (omega (arith, c.if-len-gt0.true, c.len-len.ensures)) (ap
    (λ (s : Step). s.change) c.index_mut.ensures.value) refl
