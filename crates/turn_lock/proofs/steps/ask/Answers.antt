use Rattle.std.proofs.Common.{rules, ◌≡◌, suc, arith}
use Rattle.turn_lock.specs.Turns.{IsTurn}
use Rattle.turn_lock.proofs.Boxes.{asks_box}
use Rattle.turn_lock.proofs.steps.ask.Goals as goal

pub store-requires : goal.store-requires
store-requires g c = let l = c.requires.can in let is : c.args.word ≡ suc c.args.place.now.me.0.number = let w = c.requires.word in omega arith in
    (search rules, search rules, asks_box (IsTurn g.S.Shard.acts g.S.Shard.together) _ _ _ _ _ _ l.event l.more _ l.opens is l.held l.told)
