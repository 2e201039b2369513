use Rattle.std.proofs.Common.{◌≡◌, ◌∙◌, ◌-◌, ◌+◌, refl, sym, ap, arith, ℕ, Option}
use Rattle.share_part.specs.Judging.{behind, slot_behind}
use Rattle.share_part.proofs.Standing.{behind_more, behind_none}
use Rattle.share_part.proofs.judge.slot_behind.Goals as goal

pub returns-in_default : goal.returns-in_default
returns-in_default g c =
    let log = c.args.log.now.batches in
    sym (ap (λ (o : Option ℕ). behind o (λ slot. slot_behind (2000 - (c.loop.counter + 1)) log (slot + 1))) (sym c.next_slot.ensures.value ∙ c.in_default.is))
    ∙ (sym (behind_more (2000 - c.loop.counter) (2000 - (c.loop.counter + 1)) log c.loop.from (omega (arith, c.loop-test.true))) ∙ c.loop.invariant.0)

pub loop-preserved : goal.loop-preserved
loop-preserved g c =
    let log = c.args.log.now.batches in (
      sym (ap (λ (o : Option ℕ). behind o (λ slot. slot_behind (2000 - (c.loop.counter + 1)) log (slot + 1))) (sym c.next_slot.ensures.value ∙ c.in-Some.is))
          ∙ (sym (behind_more (2000 - c.loop.counter) (2000 - (c.loop.counter + 1)) log c.loop.from (omega (arith, c.loop-test.true))) ∙ c.loop.invariant.0),
      (let later = c.in-Some.ensures.later in omega (arith, c.loop.invariant.1, later)),
    )

pub returns : goal.returns
returns g c =
    let log = c.args.log.now.batches in
    let none : 2000 - c.loop.counter ≡ 0 = omega (arith, c.loop-test.false) in
    c.next_slot-2.ensures.value ∙ (sym (behind_none log c.loop.from) ∙ (sym (ap (λ (n : ℕ). slot_behind n log c.loop.from) none) ∙ c.loop.invariant.0))

pub loop-init : goal.loop-init
loop-init g c = (refl, c.requires.above)
