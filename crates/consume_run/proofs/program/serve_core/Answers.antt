use Rattle.consume_run.proofs.Turning.{links_later, stops_links}
use Rattle.consume_run.proofs.program.serve_core.Goals as goal

pub returns-in-Some-clause-stops : goal.returns-in-Some-clause-stops
returns-in-Some-clause-stops g c = λ conf start p. stops_links conf start _ c.args.core.now p c.in-Some.end c.in-Some.ensures.kinds

pub returns-in-None-clause-links : goal.returns-in-None-clause-links
returns-in-None-clause-links g c = links_later c.turn_all.result _ _ _ _ c.take_links.ensures.later c.turn_all.ensures.links
