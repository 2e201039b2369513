use Rattle.std.proofs.Common.{rules, arith, ◌≡◌, ◌<◌, ◌+◌, ap}
use Rattle.turn_lock.specs.Rule.{merged}
use Rattle.turn_lock.specs.Turns.{IsTurn}
use Rattle.turn_lock.proofs.Boxes.{compares}
use Rattle.turn_lock.proofs.Seats.{joins}
use Rattle.turn_lock.proofs.lock.merge.Goals as goal

pub join_seat-requires : goal.join_seat-requires
join_seat-requires g c = let i = c.requires.idle in let l = c.requires.lives in (search rules, search rules, search rules, search rules, joins (IsTurn g.S.Shard.acts g.S.Shard.together) _ _ _ _ _ _ i.0 i.1 l.0 l.1 l.2)

pub load-requires : goal.load-requires
load-requires g c = let v = c.args.into.now.me.0 in let w = c.args.other.me.0 in let a : 0 < v.stands = c.requires.lives.0 in
    let both : c.join_seat.new.seat.me.0.stands ≡ v.stands + w.stands = ap (λ m. m.0.stands) {y = (merged v w, c.args.into.now.me.1)} c.join_seat.ensures.2 in
    (search rules, search rules, compares (IsTurn g.S.Shard.acts g.S.Shard.together) _ _ _ _ _ (omega arith))
