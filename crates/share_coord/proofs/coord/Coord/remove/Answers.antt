use Rattle.std.proofs.Common.{⊎_elim, sym, subst}
use Rattle.share_coord.specs.Holding.{IsHeld, parts_of}
use Rattle.share_coord.proofs.Once.{held_after}
use Rattle.share_coord.proofs.Seen.{seen_remove, stored_remove, either_there}
use Rattle.share_coord.proofs.coord.Coord.remove.Goals as goal

pub invariant_of-self : goal.invariant_of-self
invariant_of-self g c = (
  ⊎_elim
      (λ none. subst (λ s. IsHeld g.D.Disk.seen (parts_of s)) (sym (c.remove.ensures.absent none).1) c.self.invariant.0)
      (λ there. held_after g.D.Disk.seen _ _ _ _ c.remove.result (c.remove.ensures.once there) c.self.invariant.0) (either_there _),
  c.remove.ensures.roomy,
)

pub returns-clause-once : goal.returns-clause-once
returns-clause-once g c = seen_remove g.D.Disk.seen _ _ _ _ c.remove.result _ c.self.view_is c.remove.ensures.once

pub returns-clause-stored : goal.returns-clause-stored
returns-clause-stored g c = stored_remove g.D.Disk.seen _ _ (parts_of c.remove.new.self) c.remove.result _ c.self.view_is c.remove.ensures.stored
