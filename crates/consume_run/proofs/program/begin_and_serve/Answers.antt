use Rattle.consume_run.proofs.Turning.{stops_start}
use Rattle.consume_run.proofs.program.begin_and_serve.Goals as goal

pub returns-in-Err-clause-stops : goal.returns-in-Err-clause-stops
returns-in-Err-clause-stops g c = λ conf start p. stops_start conf start _ c.args.core.now p c.in-Err.end c.in-Err.ensures.kinds
