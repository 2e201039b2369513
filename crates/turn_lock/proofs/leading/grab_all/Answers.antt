use Rattle.std.proofs.Common.{rules, ◌≡◌, ◌<◌, length, sym, ap, subst, refl, arith}
use Rattle.turn_lock.specs.Asking.{AreBelow}
use Rattle.turn_lock.proofs.leading.grab_all.Goals as goal

pub loop-word-init : goal.loop-word-init
loop-word-init g c = let h = c.requires.leads in let none : length c.args.asks.now.items ≡ 0 = ap length h.1 in
    (refl, refl, h.0, (λ n is. subst (λ l. AreBelow n l) (sym h.1) tt), (h.0.0, c.args.asks.now.items, ap (λ m. m.0.role) h.0.1), refl, omega arith)

pub loop-word-preserved : goal.loop-word-preserved
loop-word-preserved g c = let i = c.loop-word.invariant in let low : c.loop-word.word < c.args.words = search rules in let room = c.grab_next.ensures.room in
    (search rules, search rules, c.grab_next.ensures.boxes c.args.place.now.me i.2, (λ n is. c.grab_next.ensures.below n (omega arith) (i.3 n is)), c.grab_next.ensures.leads, search rules, room.1)
