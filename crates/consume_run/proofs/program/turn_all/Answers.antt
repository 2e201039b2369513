use Rattle.consume_run.proofs.program.turn_all.Goals as goal

pub turn-requires : goal.turn-requires
turn-requires g c = (c.requires.0, c.requires.1, c.loop.invariant.0 c.requires.0 c.requires.1 c.requires.2)
