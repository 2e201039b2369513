use Rattle.std.proofs.Common.{ap, refl, sym, ◌∙◌, is_some}
use Rattle.part_log.proofs.Holding.{holds_still}
use Rattle.part_log.proofs.log.PartLog.arm.Goals as goal

pub invariant_of-self : goal.invariant_of-self
invariant_of-self g c =
    holds_still g.D.Disk.seen c.self.inside.seen.frames c.self.inside.index c.self.inside.journal c.self.inside.start c.self.inside.end c.self.invariant
    c.self.inside.index c.arm.new.self refl refl (λ fs p s. (p, c.arm.ensures.stands fs p s)) (λ told. ap is_some (sym c.arm.ensures.disk.same_content) ∙ told)
