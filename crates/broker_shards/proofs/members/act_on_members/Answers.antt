use Rattle.broker_shards.proofs.members.act_on_members.Goals as goal

pub returns-in-Tick : goal.returns-in-Tick
returns-in-Tick c = rw c.in-Tick.is (c.expire.ensures.after, c.expire.ensures.removed)
