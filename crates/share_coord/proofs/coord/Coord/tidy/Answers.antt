use Rattle.std.proofs.Common.{None, subst}
use Rattle.std.specs.Prelude.{if◌then◌else◌}
use Rattle.share_coord.specs.Holding.{Tidies, parts_of}
use Rattle.share_coord.specs.Parts.{StoreParts}
use Rattle.share_coord.proofs.coord.Coord.tidy.Goals as goal

pub invariant_of-self : goal.invariant_of-self
invariant_of-self g c =
    let held = c.self.invariant.0 in
    ((if c.tidy.ensures.tidies.checkpointed then None else held.0, c.tidy.ensures.tidies.kept held.0 held.1), c.tidy.ensures.roomy c.self.invariant.1)

pub returns-clause-tidies : goal.returns-clause-tidies
returns-clause-tidies g c = subst (λ (p : StoreParts _). Tidies g.D.Disk.seen p (parts_of c.tidy.new.self)) c.self.view_is c.tidy.ensures.tidies
