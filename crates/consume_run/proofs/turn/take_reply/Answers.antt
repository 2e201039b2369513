use Rattle.consume_run.proofs.Turning.{got_stops}
use Rattle.consume_run.proofs.turn.take_reply.Goals as goal

pub returns-in-Err-clause-stops : goal.returns-in-Err-clause-stops
returns-in-Err-clause-stops g c = λ conf start held p.
    rw c.end_of.ensures (got_stops conf start held c.args.core.now c.reply.new.self c.args.on p c.as_slice.result.now c.in-Err.fault
    (c.in-Err.ensures conf p.trace p.stands))
