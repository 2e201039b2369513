use Rattle.std.proofs.Common.{subst, arith}
use Rattle.share_part.specs.Judging.{MayBeStored}
use Rattle.share_part.proofs.Standing.{begins, ends, slots, stands}
use Rattle.share_part.proofs.judge.may_stand.Goals as goal

pub returns-then-run-start : goal.returns-then-run-start
returns-then-run-start g c = (
  λ e. absurd (let clash : ⊥ = cc in clash),
  λ h. absurd (let from = begins c.args.log.now.batches c.requires.sound.rises c.args.start c.args.behind c.requires.behind c.args.run.now c.requires.order h in
      omega (arith, from, c.if-run-start.true)),
)

pub returns-then-not-is_before : goal.returns-then-not-is_before
returns-then-not-is_before g c = (
  λ e. absurd (let clash : ⊥ = cc in clash),
  λ h. absurd (let yes_so = c.is_before.ensures.1 (ends c.args.log.now.batches c.requires.sound.rises c.args.start c.args.behind c.requires.behind c.args.run.now c.requires.order h) in
      let clash : ⊥ = cc in clash),
)

pub returns : goal.returns
returns g c = (
  λ is. stands c.args.log.now.batches c.requires.sound.rises c.args.start c.args.behind c.requires.behind c.args.run.now c.requires.order
      (subst MayBeStored c.row.ensures (c.may_be_stored.ensures.0 c.if-not-may_be_stored.false)) c.if-run-start.false (c.is_before.ensures.0 c.if-not-is_before.false)
      (c.are_slots.ensures.0 is),
  λ h. c.are_slots.ensures.1 (slots c.args.log.now.batches c.requires.sound.rises c.args.start c.args.behind c.requires.behind c.args.run.now c.requires.order h),
)
