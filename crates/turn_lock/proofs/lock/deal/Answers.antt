use Rattle.std.proofs.Common.{rules, arith, ◌≡◌, ◌-◌, ◌+◌, ◌<◌, length, List, ap, sym, subst, ◌∙◌}
use Rattle.shard_lock.specs.Passes.{AreNew, PassParts, newcomer}
use Rattle.shard_lock.proofs.Deals.{new_snoc}
use Rattle.turn_lock.specs.Rule.{lock_of, maker, new_seat, parts_of}
use Rattle.turn_lock.specs.Turns.{IsTurn}
use Rattle.turn_lock.proofs.Seats.{splits}
use Rattle.turn_lock.proofs.lock.deal.Goals as goal

pub split_seat-next-requires : goal.split_seat-next-requires
split_seat-next-requires g c = let v = c.loop-number.place.me.0 in let is = c.loop-number.invariant.1 in
    let one : v.stands ≡ 1 = ap (λ m. m.0.stands) is in let left : v.rest ≡ c.args.seats - c.loop-number.number = ap (λ m. m.0.rest) is in
    let lt : c.loop-number.number < c.args.seats = search rules in
    (search rules, search rules, splits (IsTurn g.S.Shard.acts g.S.Shard.together) _ _ _ _ (ap (λ m. m.0.role) is) (omega arith) (omega arith))

pub loop-number-preserved : goal.loop-number-preserved
loop-number-preserved g c = let i = c.loop-number.invariant in let P : Type 0 = PassParts g.row.S.Denot g.row.S-Event.Denot g.row.S-Answer.Denot in
    let lock = lock_of c.args.top.now.table_id c.args.top.now.key in let items : List P = c.loop-number.passes.items in
    let number : c.loop-number.number ≡ 1 + length items = let l = i.3 in omega arith in
    let table : c.split_seat-next.result.table_id ≡ c.args.top.now.table_id = search rules in
    let view : c.split_seat-next.result.me.0 ≡ new_seat (maker c.args.top.now.key.shard.value c.args.seats c.loop-number.number) = search rules in
    let pass : parts_of c.split_seat-next.result.table_id c.split_seat-next.result.me.0 ≡ newcomer lock (1 + length items) = (λ k. parts_of (table k) (view k)) ∙ ap (newcomer lock) number in
    let pushed = c.in_ok-push.ensures.items in
    (search rules, search rules, subst (λ (l : List P). AreNew lock 1 l) (sym pushed) (new_snoc lock 1 items _ i.2 pass), search rules)
