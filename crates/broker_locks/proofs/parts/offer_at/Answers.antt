use Rattle.std.proofs.Common.{refl, sym, subst}
use Rattle.std.specs.List.{AllZip}
use Rattle.shard_lock.specs.Passes.{IsOf}
use Rattle.broker_shards.specs.Acts.{ActsPart}
use Rattle.broker_locks.specs.Shared.{SharedParts}
use Rattle.broker_locks.proofs.Places.{offer_told_so, place_stay}
use Rattle.broker_locks.proofs.parts.offer_at.Goals as goal

pub told_offer-requires : goal.told_offer-requires
told_offer-requires g c = record {
  told = offer_told_so g.D.Disk.seen c.shared.inside.parts.items _ _ c.args.group c.act_at.result _ _ refl c.act_at.ensures;
}

pub returns-clause-of : goal.returns-clause-of
returns-clause-of g c =
    let of : AllZip IsOf c.shared.inside.parts.items c.args.parts.now.items =
    subst (λ (s : SharedParts g.row.D.Denot). AllZip IsOf s.parts c.args.parts.now.items) (sym c.shared.view_is) c.requires.of in
    subst (λ (s : SharedParts g.row.D.Denot). AllZip IsOf s.parts c.act_at.new.passes.items) c.shared.view_is
    (place_stay (ActsPart g.D.Disk.seen) c.shared.inside.parts.items _ _ _ _ _ of c.act_at.ensures).0
