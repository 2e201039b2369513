use Rattle.std.proofs.Common.{◌≡◌, ◌+◌, ◌-◌, ap, sym, ◌∙◌, arith, to_z, of_z, w32}
use Rattle.std.proofs.lemmas.Int.{to_z-of_z}
use Rattle.share_members.specs.Expiry.{later_epoch}
use Rattle.share_members.proofs.Lists.{later_goes_on}
use Rattle.share_members.proofs.group.later_epoch.Goals as goal

pub loop-preserved : goal.loop-preserved
loop-preserved c =
    let next = c.next_epoch-later.result in
    let same : to_z w32 (of_z w32 next) ≡ next = grind (arith, to_z-of_z) in
    ap (later_epoch (c.args.changes - (c.loop.counter + 1))) (same ∙ c.next_epoch-later.ensures)
    ∙ sym (later_goes_on c.args.changes c.loop.counter (to_z w32 c.loop.later-bits) (omega arith))
    ∙ c.loop.invariant
