use Rattle.std.proofs.Common.{rules, ◌∷◌, ℕ, sym, subst, ap, ◌∙◌}
use mathlib.Core.Option.{none}
use Rattle.atomic_table.specs.Table.{Allows, step}
use Rattle.turn_lock.specs.Rule.{Kept, tells}
use Rattle.turn_lock.specs.Turns.{IsTurn}
use Rattle.turn_lock.specs.declared.board.Cell.TheVariants.{Told}
use Rattle.turn_lock.proofs.Turning.{tells_one}
use Rattle.turn_lock.proofs.steps.tell.Goals as goal

pub store-requires : goal.store-requires
store-requires g c = let l = c.requires.can in (
  search rules,
  search rules,
  subst (λ (k : ℕ). Allows (Kept (IsTurn g.S.Shard.acts g.S.Shard.together) c.args.top.now.key.shard.value c.args.top.now.key.seats) c.args.top.now.table_id.slots c.args.place.now.id c.args.place.now.me k (λ _. 2)
      (λ _. tells (step c.args.top.now.table_id.slots k 2 0 none) c.args.place.now.me 2)) l.seat
      (tells_one (IsTurn g.S.Shard.acts g.S.Shard.together) _ _ _ _ _ l.first l.others l.more l.tells (l.held ∙ ap (λ k. (k, Told l.first.answer) ∷ l.more) (sym l.seat))),
)
