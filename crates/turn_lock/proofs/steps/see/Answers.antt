use Rattle.std.proofs.Common.{rules, ◌≡◌, ℕ, suc, subst, arith}
use mathlib.Core.Option.{none}
use Rattle.atomic_table.specs.Table.{Allows, step}
use Rattle.turn_lock.specs.Rule.{Kept, saw}
use Rattle.turn_lock.specs.Turns.{IsTurn}
use Rattle.turn_lock.proofs.Boxes.{sees}
use Rattle.turn_lock.proofs.steps.see.Goals as goal

pub load-requires : goal.load-requires
load-requires g c = let a = c.requires.asks in let is : suc c.args.place.now.me.0.number ≡ c.args.word = let w = c.requires.word in omega arith in (
  search rules,
  search rules,
  subst (λ (k : ℕ). Allows (Kept (IsTurn g.S.Shard.acts g.S.Shard.together) c.args.top.now.key.shard.value c.args.top.now.key.seats) c.args.top.now.table_id.slots c.args.place.now.id c.args.place.now.me k (λ n. n)
      (saw (IsTurn g.S.Shard.acts g.S.Shard.together) (step c.args.top.now.table_id.slots k 0 0 none) c.args.place.now.me)) is (sees (IsTurn g.S.Shard.acts g.S.Shard.together) _ _ _ _ _ a.0 a.1),
)
