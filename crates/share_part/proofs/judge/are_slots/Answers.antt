use Rattle.std.proofs.Common.{◌<◌, ◌≤◌, ⊎_elim, refl, arith}
use Rattle.std.proofs.lemmas.Bool.{cases_lt}
use Rattle.share_part.proofs.Standing.{place_covers}
use Rattle.share_part.proofs.judge.are_slots.Goals as goal

pub returns-then-place-last : goal.returns-then-place-last
returns-then-place-last g c = (
  λ e o lo hi. ⊎_elim (λ (lt : o < c.loop-from.from). c.loop-from.invariant.0.slots o lo lt)
      (λ (le : c.loop-from.from ≤ o). place_covers c.args.log.now.batches c.loop-from.from c.in-Some.place c.in-Some.ensures.1 o le (omega (arith, hi, c.if-place-last.true)))
      (cases_lt o c.loop-from.from),
  λ h. refl,
)

pub loop-from-preserved : goal.loop-from-preserved
loop-from-preserved g c = (
  record {
    begun = (let lo = c.loop-from.invariant.0.begun in let le = c.in-Some.ensures.1.covers.1 in let last = c.in-Some.ensures.1.last in omega (arith, lo, le, last));
    slots = λ o lo hi. ⊎_elim (λ (lt : o < c.loop-from.from). c.loop-from.invariant.0.slots o lo lt)
        (λ (le : c.loop-from.from ≤ o). place_covers c.args.log.now.batches c.loop-from.from c.in-Some.place c.in-Some.ensures.1 o le (omega (arith, hi)))
        (cases_lt o c.loop-from.from);
  },
  refl,
)

pub returns-in_default : goal.returns-in_default
returns-in_default g c = (
  λ e. absurd (let clash : ⊥ = cc in clash),
  λ h. absurd (
      let begun = c.loop-from.invariant.0.begun in
      let at = c.loop-from.invariant.1 in
      c.in_default.ensures (omega (arith, c.requires.above, begun), h c.loop-from.from begun (omega (arith, c.loop-from-test.true, at)))),
)
