use Rattle.std.proofs.Common.{rules, ◌≡◌, ◌∙◌, ◌++◌, ◌∷◌, [], ℕ, List, sym, ap, subst}
use Rattle.shard_lock.specs.History.{entry}
use Rattle.turn_lock.specs.declared.board.Cell.TheVariants.{Home}
use Rattle.turn_lock.specs.Asking.{entries}
use Rattle.turn_lock.specs.Rule.{inner}
use Rattle.turn_lock.specs.Turns.{IsTurn}
use Rattle.turn_lock.proofs.Tops.{top_of, same_home, held_so}
use Rattle.turn_lock.proofs.leading.do_all.Goals as goal

pub exchange-cell-requires : goal.exchange-cell-requires
exchange-cell-requires g c = let b = c.requires.boxes in (search rules, (Home b.0, top_of _ _ _ _ (ap (λ m. m.1) b.1)))

pub enter_turn-requires-clause-can : goal.enter_turn-requires-clause-can
enter_turn-requires-clause-can g c = let b = c.requires.boxes in let first = c.exchange-cell.ensures in let last = c.exchange.ensures in let done = c.turn_on-done.ensures in
    let is = same_home _ _ _ _ _ c.exchange-cell.result c.in-Home.desk b.0 c.in-Home.is first.2 (ap (λ m. m.1) b.1) in let start : c.deref_mut.result.now ≡ inner b.0 = c.deref_mut.ensures.value ∙ ap inner is in
    let S : Type 0 = g.row.S.Denot in let E : Type 0 = g.row.S-Event.Denot in (
      b.0,
      _,
      held_so c.args.place.now.me c.exchange-cell.new.seat.me c.exchange.new.seat.me b.0 _ c.args.asks.now.items c.turn_on-done.new.asks.items b.1 first.3 last.3 done.asks,
      subst (λ (z : S × List (ℕ × E) × E). IsTurn g.S.Shard.acts g.S.Shard.together z.0 (entries z.1 c.turn_on-done.new.answers.items ++ entry c.args.number z.2 c.turn_on-done.result.1 ∷ []) c.turn_on-done.new.shard) (λ i. (start i, sym done.asks i, sym done.event i)) done.turn,
    )
