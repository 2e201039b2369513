use Rattle.broker_locks.proofs.parts.ask_part.Goals as goal

pub returns-in-Err-clause-err : goal.returns-in-Err-clause-err
returns-in-Err-clause-err g c = (c.in-Err.fault, rw (← c.new.ensures) c.in-Err.ensures.acts)
