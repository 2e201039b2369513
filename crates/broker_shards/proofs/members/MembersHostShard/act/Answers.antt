use Rattle.broker_shards.proofs.members.MembersHostShard.act.Goals as goal

pub returns : goal.returns
returns c = rw (← c.ms.ensures.is) c.act_on_members.ensures
