use Rattle.std.proofs.Common.{rules, ◌≡◌, sym, ◌-◌, subst, ℕ, length}
use Rattle.edge_mem.specs.Sound.{IsSound}
use Rattle.edge_mem.proofs.Sounds.{synced_sound}
use Rattle.edge_mem.proofs.history.History.sync.Goals as goal

pub invariant_of-self : goal.invariant_of-self
invariant_of-self c =
    let len : c.len.result ≡ length c.mark.new.log.items = search rules in
    subst (λ (n : ℕ). IsSound c.self.inside.first.items c.self.inside.era.items c.self.inside.bytes.items c.mark.new.log.items c.self.inside.start
    (n - c.self.inside.start)) (sym len)
    (synced_sound _ _ _ _ _ _ c.self.invariant _ c.mark.ensures)
