use Rattle.std.proofs.Common.{◌<◌, ◌≤◌, Contains, length, slice_index, arith, subst, sym}
use Rattle.tape_merge.proofs.Waits.{contains_min, min_below}
use Rattle.tape_merge.proofs.tangle.least_of.Goals as goal

pub loop-link-init : goal.loop-link-init
loop-link-init c = record { among = c.requires; below = λ at lt. absurd (omega (arith, lt)) }

pub loop-link-preserved : goal.loop-link-preserved
loop-link-preserved c =
    let ring = c.args.ring.now in
    let i = c.loop-link.link-index in
    let within : i < length ring = omega arith in
    let is = sym c.lesser-least.ensures in
    record {
      among = subst (λ x. Contains ring x) is (contains_min ring c.loop-link.least i c.loop-link.invariant.among within);
      below = λ at lt. subst (λ x. x ≤ slice_index ring at) is (min_below ring c.loop-link.least i c.loop-link.invariant.below at lt);
    }
