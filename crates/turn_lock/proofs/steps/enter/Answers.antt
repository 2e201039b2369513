use Rattle.std.proofs.Common.{rules}
use Rattle.turn_lock.specs.Turns.{IsTurn}
use Rattle.turn_lock.proofs.Turning.{enters}
use Rattle.turn_lock.proofs.steps.enter.Goals as goal

pub store-requires : goal.store-requires
store-requires g c = (search rules, search rules, enters (IsTurn g.S.Shard.acts g.S.Shard.together) _ _ _ _ _ _ c.requires.can)
