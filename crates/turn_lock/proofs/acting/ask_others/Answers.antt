use Rattle.std.proofs.Common.{rules, ◌≡◌, ap}
use Rattle.turn_lock.specs.declared.board.Cell.TheVariants.{Ask, Told}
use Rattle.turn_lock.proofs.Tops.{top_of}
use Rattle.turn_lock.proofs.acting.ask_others.Goals as goal

pub exchange-cell-requires : goal.exchange-cell-requires
exchange-cell-requires g c = let hit : c.see.result ≡ 2 = search rules in let t = c.see.ensures.told.1 hit in
    (search rules, (Told t.2, top_of _ _ _ _ t.5))

pub exchange-cell-requires-then-withdraw-eq-ASKED : goal.exchange-cell-requires-then-withdraw-eq-ASKED
exchange-cell-requires-then-withdraw-eq-ASKED g c = let hit : c.withdraw.result ≡ 1 = search rules in let t = c.withdraw.ensures.told.0 hit in
    (search rules, (Ask t.0, top_of _ _ _ _ (ap (λ m. m.1) t.2)))
