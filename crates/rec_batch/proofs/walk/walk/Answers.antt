use Rattle.std.proofs.Common.{◌≡◌, ℤ, w32, to_z, of_z, sym, subst, arith}
use Rattle.std.proofs.Math.Facts.{to_z-of_z}
use Rattle.rec_batch.specs.Verdicts.{DueAfter}
use Rattle.rec_batch.proofs.Walking.{walked_bad, walked_more, walked_none}
use Rattle.rec_batch.proofs.walk.walk.Goals as goal

pub loop-index-init : goal.loop-index-init
loop-index-init c = walked_none c.args.form (to_z w32 (of_z w32 c.args.last)) c.args.content.now

pub returns-in_default-clause-err : goal.returns-in_default-clause-err
returns-in_default-clause-err c =
    walked_bad c.args.form (to_z w32 (of_z w32 c.args.last)) c.args.content.now c.args.count c.loop-index.index c.loop-index.due c.loop-index.rest.now
    (omega arith) c.loop-index.invariant (sym c.in_default.ensures)

pub loop-index-preserved : goal.loop-index-preserved
loop-index-preserved c =
    let last : ℤ = to_z w32 (of_z w32 c.args.last) in
    let same : to_z w32 (of_z w32 c.in-Some.delta) ≡ c.in-Some.delta = grind (arith, to_z-of_z) in
    walked_more c.args.form last c.args.content.now c.loop-index.index c.loop-index.due c.due_after-due.result c.loop-index.rest.now c.in-Some.after.now c.in-Some.delta
    (λ i. omega (arith, c.type_inv.content i)) c.loop-index.invariant (sym c.in-Some.ensures)
    (subst (λ z. DueAfter c.args.form last c.loop-index.due z c.due_after-due.result) same c.due_after-due.ensures)
