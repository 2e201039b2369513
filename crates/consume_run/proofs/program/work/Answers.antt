use Rattle.consume_run.proofs.Turning.{begins, stops_starved}
use Rattle.consume_run.proofs.program.work.Goals as goal

pub begin_and_serve-end-requires-clause-goes : goal.begin_and_serve-end-requires-clause-goes
begin_and_serve-end-requires-clause-goes g c κs within = (c.args.conf, _, begins c.args.conf _ _ c.new-core.ensures)

pub returns-in_default-clause-stops : goal.returns-in_default-clause-stops
returns-in_default-clause-stops g c = stops_starved c.args.conf _ _ c.new-core.result (begins c.args.conf c.new-core.result _ c.new-core.ensures)

pub returns-clause-stops : goal.returns-clause-stops
returns-clause-stops g c = c.begin_and_serve-end.ensures.stops c.args.conf _ (begins c.args.conf _ _ c.new-core.ensures)
