use Rattle.broker_run.proofs.Homes.{home_of, home_served}
use Rattle.broker_run.proofs.worker.serve_link.Goals as goal

pub serve_connection-ended-requires-clause-of : goal.serve_connection-ended-requires-clause-of
serve_connection-ended-requires-clause-of g c = home_of _ _ _ _ _ _ c.get.ensures _ c.into_passes-passes.ensures.home

pub new-requires : goal.new-requires
new-requires g c = home_served _ _ _ _ _ _ c.get.ensures _ _ c.args.link.now c.serve_connection-ended.new.link c.args.clock.now
    c.serve_connection-ended.new.clock c.into_passes-passes.ensures.home c.serve_connection-ended.ensures.stay
    (c.serve_connection-ended.result, c.serve_connection-ended.ensures.served)
