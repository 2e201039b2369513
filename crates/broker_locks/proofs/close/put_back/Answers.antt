use Rattle.broker_locks.proofs.close.put_back.Goals as goal

pub returns : goal.returns
returns g c = rw (← c.host.view_is) c.put_part_back.ensures
