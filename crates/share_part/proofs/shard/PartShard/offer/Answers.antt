use Rattle.share_part.proofs.shard.PartShard.offer.Goals as goal

pub offer-requires-clause-well : goal.offer-requires-clause-well
offer-requires-clause-well g c = (c.self.invariant.holds c.args.group.now).0

pub returns : goal.returns
returns g c = rw (← c.self.view_is) c.offer.ensures
