use Rattle.std.proofs.Common.{◌≡◌, refl, subst}
use Rattle.broker_locks.specs.Looking.{LookerParts, LooksBy}
use Rattle.broker_locks.proofs.waiting.LookerWatch.look.Goals as goal

pub returns-clause-acts : goal.returns-clause-acts
returns-clause-acts g c = subst (λ (s : LookerParts g.row.D.Denot g.row.C.Denot).
    ((c.self.inside.shared.now ≡ s.shared) × (c.self.inside.wish.now ≡ s.wish)) × (c.self.inside.clock ≡ s.clock)
    × LooksBy g.D.Disk.seen s.shared s.wish.group s.wish.shards c.look_at.result s.parts c.look_at.new.parts.items) c.self.view_is
    ((refl, refl), refl, c.look_at.ensures.looks)
