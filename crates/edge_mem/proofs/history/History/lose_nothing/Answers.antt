use Rattle.std.proofs.Common.{◌≡◌, ap, sym, ◌∙◌, length, rules}
use Rattle.edge_mem.specs.Events.{loss_of}
use Rattle.edge_mem.specs.Past.{Past, content, state}
use Rattle.edge_mem.specs.Sound.{state_of}
use Rattle.edge_mem.proofs.Sounds.{lost_sound, view_then}
use Rattle.edge_mem.proofs.history.History.lose_nothing.Goals as goal

pub invariant_of-self-2 : goal.invariant_of-self-2
invariant_of-self-2 c =
    let whole : loss_of (state_of c.self.inside.first.items c.self.inside.log.items) c.args.choice ≡ c.self.inside.bytes.items =
    ap (λ (h : Past). loss_of (state h) c.args.choice) c.self.view_is
    ∙ c.requires
    ∙ sym (ap content c.self.view_is)
    ∙ sym c.self.invariant.bytes_are in
    let era : c.in_ok-era.era.items ≡ c.self.inside.bytes.items = search rules in
    let len : c.len-self-inside.result ≡ length c.push_step.new.log.items = search rules in
    rw (era, sym whole, len) (lost_sound _ _ _ _ _ _ c.self.invariant _ _ c.in_ok-push_step.ensures.ok)

pub returns-clause-ok : goal.returns-clause-ok
returns-clause-ok c = view_then _ _ _ _ _ c.self.view_is c.in_ok-push_step.ensures.ok
