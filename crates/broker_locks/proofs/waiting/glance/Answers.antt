use Rattle.std.proofs.Common.{[], ◌∷◌, refl, subst}
use Rattle.broker_locks.specs.Shared.{PassesParts}
use Rattle.broker_locks.specs.Waiting.{LooksThrough}
use Rattle.broker_locks.proofs.Waits.{looked_at, looks_stay}
use Rattle.broker_locks.proofs.waiting.glance.Goals as goal

pub returns-clause-looks : goal.returns-clause-looks
returns-clause-looks g c =
    let new : PassesParts g.row.D.Denot = record { parts = c.offer_at.new.parts.items; members = c.passes.inside.members; foreign = c.passes.inside.foreign } in
    subst (λ (p : PassesParts g.row.D.Denot). LooksThrough g.D.Disk.seen c.args.shared.now c.args.group (c.args.shard ∷ []) c.offer_at.result p new) c.passes.view_is
    (looked_at g.D.Disk.seen c.args.shared.now c.args.group c.args.shard c.offer_at.result
    (record { parts = c.passes.inside.parts.items; members = c.passes.inside.members; foreign = c.passes.inside.foreign }) new c.offer_at.ensures.looks refl refl)

pub returns-clause-stay : goal.returns-clause-stay
returns-clause-stay g c =
    looks_stay g.D.Disk.seen c.args.shared.now c.args.group (c.args.shard ∷ []) c.offer_at.result c.args.passes.now _ c.requires.of (returns-clause-looks g c)
