use Rattle.consume_run.proofs.Turning.{broke_off, finished}
use Rattle.consume_run.proofs.last_line.finish.Goals as goal

pub returns-in-Ok-clause-consumes : goal.returns-in-Ok-clause-consumes
returns-in-Ok-clause-consumes g c = λ conf start s. finished conf start _ _ c.args.end s c.in-Ok.ensures.ok

pub returns-in-Err-clause-consumes : goal.returns-in-Err-clause-consumes
returns-in-Err-clause-consumes g c = λ conf start s.
    broke_off conf start _ _ c.args.end c.in-Err.ensures.front.0 s c.in-Err.ensures.line c.in-Err.ensures.front.1
