use Rattle.std.proofs.Common.{◌+◌, ℕ, List, arith, subst, sym, true≢false}
use Rattle.rec_batch.specs.declared.form.Form.TheVariants.{Stored}
use Rattle.rec_batch.specs.Batches.{Accepts, IsBatch}
use Rattle.share_client.specs.Spans.{IsInFront}
use Rattle.share_client.proofs.Walking.{begins_here, begins_low, begins_refused, begins_within}
use Rattle.share_client.proofs.batches.front.Goals as goal

pub returns-in_default-clause-none : goal.returns-in_default-clause-none
returns-in_default-clause-none c =
    begins_refused c.args.bytes.now c.args.next c.in_ok-size.size c.in_ok-size.ensures
    (λ records is. true≢false (sym (c.in_default.ensures.only records (subst (λ (x : List ℕ). IsBatch Stored x records) (sym c.split_at.ensures.front) is))))

pub returns-then-view-next-clause-none : goal.returns-then-view-next-clause-none
returns-then-view-next-clause-none c =
    begins_low c.args.bytes.now c.args.next c.in_ok-size.size c.in_ok-size.ensures c.in-Ok.view
    (subst (λ (x : List ℕ). Accepts Stored x c.in-Ok.view) c.split_at.ensures.front c.in-Ok.ensures.accepted) c.if-view-next.true

pub overflow_add-last : goal.overflow_add-last
overflow_add-last c =
    let small = begins_within c.args.bytes.now c.args.next c.in_ok-size.size c.in_ok-size.ensures c.in-Ok.view
    (subst (λ (x : List ℕ). Accepts Stored x c.in-Ok.view) c.split_at.ensures.front c.in-Ok.ensures.accepted) in
    omega (arith, small, c.from.ensures)

pub returns-clause-some : goal.returns-clause-some
returns-clause-some c =
    subst (λ (n : ℕ). IsInFront c.args.next c.args.bytes.now (record { base = c.in-Ok.view.base; last = c.in-Ok.view.base + n }) c.split_at.result.1.now) (sym c.from.ensures)
    (subst (λ (l : List ℕ). IsInFront c.args.next c.args.bytes.now (record { base = c.in-Ok.view.base; last = c.in-Ok.view.base + c.in-Ok.view.last_delta }) l) (sym c.split_at.ensures.back)
    (begins_here c.args.bytes.now c.args.next c.in_ok-size.size c.in_ok-size.ensures c.in-Ok.view
    (subst (λ (x : List ℕ). Accepts Stored x c.in-Ok.view) c.split_at.ensures.front c.in-Ok.ensures.accepted) c.if-view-next.false))

pub returns-clause-low : goal.returns-clause-low
returns-clause-low c =
    let small = begins_within c.args.bytes.now c.args.next c.in_ok-size.size c.in_ok-size.ensures c.in-Ok.view
    (subst (λ (x : List ℕ). Accepts Stored x c.in-Ok.view) c.split_at.ensures.front c.in-Ok.ensures.accepted) in
    omega (arith, small, c.from.ensures)
