use Rattle.share_part.proofs.shard.PartShard.describe.Goals as goal

pub returns : goal.returns
returns g c = rw (← c.self.view_is) c.describe.ensures
