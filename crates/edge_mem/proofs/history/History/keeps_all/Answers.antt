use Rattle.std.proofs.Common.{◌≡◌, ◌≤◌, ◌-◌, ◌∙◌, sym, ap, arith, rules, length}
use Rattle.std.proofs.lemmas.Bool.{leb-true}
use Rattle.edge_mem.specs.Events.{loss_of}
use Rattle.edge_mem.specs.Past.{Past, content, state}
use Rattle.edge_mem.proofs.Sounds.{kept_fits, whole_loss}
use Rattle.edge_mem.proofs.history.History.keeps_all.Goals as goal

pub overflow_sub-unsynced-2 : goal.overflow_sub-unsynced-2
overflow_sub-unsynced-2 c = let same : c.len.result ≡ length c.self.inside.log.items = search rules in
    omega (arith, same, kept_fits _ _ _ _ _ _ c.self.invariant)

pub returns : goal.returns
returns c = λ holds.
    let same : c.len.result ≡ length c.self.inside.log.items = search rules in
    let le : c.len.result - c.self.inside.start - c.self.inside.kept ≤ c.args.choice = leb-true _ _ holds in
    sym (ap (λ (h : Past). loss_of (state h) c.args.choice) c.self.view_is)
    ∙ whole_loss _ _ _ _ _ _ c.self.invariant c.args.choice (omega (arith, le, same))
    ∙ c.self.invariant.bytes_are
    ∙ ap content c.self.view_is
