use Rattle.turn_lock.proofs.Tops.{popped}
use Rattle.turn_lock.proofs.leading.turn_on.Goals as goal

pub returns-clause-turn : goal.returns-clause-turn
returns-clause-turn g c = (popped g.S.Shard.acts g.S.Shard.together c.args.shard.now c.act_all.new.self c.args.asks.now.items c.push_reserved.new.self.items c.pop.new.self.items c.act_all.new.answers.items c.pop-2.new.self.items c.args.number c.args.event
    (c.in-Some.field-0-0, c.in-Some.event) c.in-Some-pop.answer c.push_reserved.ensures.items c.in-Some.ensures.items c.in-Some-pop.ensures.items c.act_all.ensures.count c.act_all.ensures.turn).turn
