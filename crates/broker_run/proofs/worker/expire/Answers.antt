use Rattle.broker_run.proofs.Homes.{home_expired, home_of}
use Rattle.broker_run.proofs.worker.expire.Goals as goal

pub expiry_turn-answer-requires-clause-of : goal.expiry_turn-answer-requires-clause-of
expiry_turn-answer-requires-clause-of g c = home_of _ _ _ _ _ _ c.get.ensures _ c.into_passes-passes.ensures.home

pub new-requires : goal.new-requires
new-requires g c = home_expired _ _ _ _ _ _ c.get.ensures _ _ c.args.clock.now c.expiry_turn-answer.new.clock c.into_passes-passes.ensures.home
    c.expiry_turn-answer.ensures.stay (c.expiry_turn-answer.result, c.expiry_turn-answer.ensures.turn)
