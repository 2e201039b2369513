use Rattle.std.proofs.Common.{rules}
use Rattle.turn_lock.specs.Turns.{IsTurn}
use Rattle.turn_lock.proofs.Turning.{leads_on_shard}
use Rattle.turn_lock.proofs.steps.lead.Goals as goal

pub compare_exchange-requires : goal.compare_exchange-requires
compare_exchange-requires g c = (search rules, search rules, leads_on_shard (IsTurn g.S.Shard.acts g.S.Shard.together) _ _ _ _ _ c.requires.idle.0 c.requires.idle.1)
