use Rattle.std.proofs.Common.{◌≡◌, ◌+◌, ◌∙◌, ℕ, sym, ap, subst, arith, to_z, of_z, w64}
use Rattle.std.proofs.Math.Facts.{to_z-of_z}
use Rattle.rec_batch.specs.Batches.{at_least_zero}
use Rattle.share_client.specs.Deliveries.{run_first}
use Rattle.share_client.specs.Readers.{LeftFrom}
use Rattle.share_client.proofs.grants.read_run.Goals as goal

pub returns-clause-left : goal.returns-clause-left
returns-clause-left c = λ records l.
    let first_same : to_z w64 (of_z w64 c.args.acquired.now.first_offset) ≡ c.args.acquired.now.first_offset = grind (arith, to_z-of_z) in
    let last_same : to_z w64 (of_z w64 c.args.acquired.now.last_offset) ≡ c.args.acquired.now.last_offset = grind (arith, to_z-of_z) in
    let first : c.from_zero-first.result ≡ run_first c.args.acquired.now = c.from_zero-first.ensures.is ∙ ap at_least_zero first_same in
    let last : c.from_zero-last.result ≡ at_least_zero c.args.acquired.now.last_offset = c.from_zero-last.ensures.is ∙ ap at_least_zero last_same in
    subst (λ (n : ℕ). LeftFrom (n + 1) records c.in_ok-types.after) last
    (c.in_ok-types.ensures.left records (subst (λ (n : ℕ). LeftFrom n records c.args.reader) (sym first) l))
