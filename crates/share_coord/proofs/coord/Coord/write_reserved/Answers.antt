use Rattle.std.proofs.Common.{sym, subst, ℤ, to_z, of_z, w64}
use Rattle.std.proofs.lemmas.Int.{to_z-of_z}
use Rattle.coord_checkpoint.specs.Writes.{StaysOn}
use Rattle.share_coord.specs.Holding.{parts_of}
use Rattle.share_coord.specs.Parts.{StoreParts}
use Rattle.share_coord.specs.Putting.{stored_as}
use Rattle.share_coord.specs.Rooms.{IsGranted}
use Rattle.share_coord.proofs.Once.{held_after}
use Rattle.share_coord.proofs.Seen.{seen_own, stored_own}
use Rattle.share_coord.proofs.coord.Coord.write_reserved.Goals as goal

pub write_reserved-requires-clause-granted : goal.write_reserved-requires-clause-granted
write_reserved-requires-clause-granted g c =
    subst (λ (p : StoreParts _). IsGranted p.entries c.args.key.now (to_z w64 (of_z w64 c.args.start)) c.args.runs.now p.room) (sym c.self.view_is)
    (subst (λ (z : ℤ). IsGranted c.args.self.now.entries c.args.key.now z c.args.runs.now c.args.self.now.room) (sym (to_z-of_z w64 c.args.start c.ranges.start)) c.requires)

pub invariant_of-self : goal.invariant_of-self
invariant_of-self g c =
    (held_after g.D.Disk.seen _ _ _ _ (stored_as c.write_reserved.result) c.write_reserved.ensures.once c.self.invariant.0, c.write_reserved.ensures.roomy)

pub returns-clause-once : goal.returns-clause-once
returns-clause-once g c = seen_own g.D.Disk.seen _ _ _ _ (stored_as c.write_reserved.result) _ c.self.view_is c.args.start c.args.runs.now c.ranges.start c.write_reserved.ensures.once

pub returns-clause-stored : goal.returns-clause-stored
returns-clause-stored g c = stored_own g.D.Disk.seen _ _ (parts_of c.write_reserved.new.self) (stored_as c.write_reserved.result) _ c.self.view_is c.args.start c.args.runs.now c.ranges.start c.write_reserved.ensures.stored

pub returns-clause-alone : goal.returns-clause-alone
returns-clause-alone g c =
    subst (λ (p : StoreParts _). StaysOn g.D.Disk.seen p.journal c.write_reserved.new.self.journal c.write_reserved.result) c.self.view_is c.write_reserved.ensures.alone
