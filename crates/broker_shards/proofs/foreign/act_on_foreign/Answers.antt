use Rattle.broker_shards.proofs.Telling.{runs_told}
use Rattle.broker_shards.proofs.foreign.act_on_foreign.Goals as goal

pub returns-in-Ok-clause-acts : goal.returns-in-Ok-clause-acts
returns-in-Ok-clause-acts g c = record { tellable = runs_told c.in-Ok.answer.runs c.in-Ok.ensures.ranges; steps = c.in-Ok.ensures.ok }

pub returns-in-Ok-clause-first : goal.returns-in-Ok-clause-first
returns-in-Ok-clause-first g c = c.in-Ok.ensures.runs.0

pub returns-in-Ok-clause-second : goal.returns-in-Ok-clause-second
returns-in-Ok-clause-second g c = c.in-Ok.ensures.runs.1

pub returns-in-Err-clause-first : goal.returns-in-Err-clause-first
returns-in-Err-clause-first g c = c.in-Err.ensures.runs.0

pub returns-in-Err-clause-second : goal.returns-in-Err-clause-second
returns-in-Err-clause-second g c = c.in-Err.ensures.runs.1
