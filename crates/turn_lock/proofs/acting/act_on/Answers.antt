use Rattle.std.proofs.Common.{rules, ◌≡◌, ◌∙◌, ap}
use Rattle.turn_lock.proofs.Tops.{leads_off}
use Rattle.turn_lock.proofs.acting.act_on.Goals as goal

pub lead_all-requires-clause-leads : goal.lead_all-requires-clause-leads
lead_all-requires-clause-leads g c = let hit : c.lead.result ≡ 0 = search rules in let t = c.lead.ensures.told.0 hit in
    leads_off c.loop.place.me c.lead.new.place.me t.0 t.1 (ap (λ m. m.1) c.loop.invariant.2 ∙ c.requires.idle.0.1)
