use Rattle.broker_shards.proofs.members.heartbeat.Goals as goal

pub returns-in-Ok : goal.returns-in-Ok
returns-in-Ok c = (c.in-Ok.ensures.told, c.in-Ok.ensures.after)

pub returns-in-Err : goal.returns-in-Err
returns-in-Err c = (tt, c.in-Err.ensures.memory)
