use Rattle.std.proofs.Common.{rules, ◌≡◌, ◌∙◌, ◌+◌, ◌<◌, ◌++◌, ◌∷◌, [], ℕ, suc, List, length, take, get_or, sym, ap, arith}
use Rattle.std.proofs.lemmas.List.{length-take-le}
use Rattle.std.proofs.Math.Seq.{take-suc}
use Rattle.turn_lock.proofs.Tops.{leads_more}
use Rattle.turn_lock.proofs.shard.Shard.act_all.Goals as goal

pub loop-ask-preserved : goal.loop-ask-preserved
loop-ask-preserved g c = let i = c.loop-ask.invariant in let n : ℕ = c.loop-ask.ask-index in let x = c.ask-item.result in
    let l : List (ℕ × g.row.Self-Event.Denot) = c.args.asks.now.items in
    let low : n < length l = search rules in let at : x ≡ get_or l n x = c.ask-item.is ∙ ap (λ z. get_or z n x) c.deref-ask-items.ensures.value in
    let more : take (n + 1) l ≡ take n l ++ x ∷ [] = (let up : n + 1 ≡ suc n = omega arith in ap (λ k. take k l) up) ∙ (take-suc l n x low ∙ (λ j. take n l ++ sym at j ∷ [])) in
    let count : length c.loop-ask.answers.items ≡ length (take n l) = i.0 ∙ sym (length-take-le n l (omega arith)) in
    (search rules, search rules, leads_more g.Self.Shard.acts g.Self.Shard.together _ _ _ (take n l) c.loop-ask.answers.items x c.act.result _ _ count more c.push_reserved.ensures.items i.2 c.act.ensures)
