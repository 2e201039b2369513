use Rattle.std.proofs.Common.{◌≡◌, ◌+◌, take, drop, length, ap, ◌∙◌, arith, rules, ℕ, List}
use Rattle.edge_mem.specs.Events.{loss_of, replay}
use Rattle.edge_mem.specs.Sound.{state_of}
use Rattle.edge_mem.specs.Steps.{changes}
use Rattle.edge_mem.proofs.Sounds.{lost_sound, view_then, loss_is, kept_fits}
use Rattle.edge_mem.proofs.history.History.lose_changes.Goals as goal

pub after_loss-requires-clause-kept : goal.after_loss-requires-clause-kept
after_loss-requires-clause-kept c = let same : length c.deref-2.result.now ≡ length c.self.inside.log.items = ap length c.deref-2.ensures.value in
    omega (arith, same, kept_fits _ _ _ _ _ _ c.self.invariant)

pub invariant_of-self-2 : goal.invariant_of-self-2
invariant_of-self-2 c =
    let left : c.in_ok-left.left.items ≡ loss_of (state_of c.self.inside.first.items c.self.inside.log.items) c.args.choice =
    c.in_ok-left.ensures
    ∙ ap (λ (l : List _). replay (take (c.self.inside.kept + c.args.choice)
    (changes (drop c.self.inside.start l))) c.deref.result.now) c.deref-2.ensures.value
    ∙ ap (λ (l : List ℕ). replay (take (c.self.inside.kept + c.args.choice)
    (changes (drop c.self.inside.start c.self.inside.log.items))) l) c.deref.ensures.value
    ∙ loss_is _ _ _ _ _ _ c.self.invariant c.args.choice in
    let bytes : c.in_ok-bytes.bytes.items ≡ c.in_ok-left.left.items = search rules in
    let len : c.len-self-inside.result ≡ length c.push_step.new.log.items = search rules in
    rw (bytes, left, len) (lost_sound _ _ _ _ _ _ c.self.invariant _ _ c.in_ok-push_step.ensures.ok)

pub returns-clause-ok : goal.returns-clause-ok
returns-clause-ok c = view_then _ _ _ _ _ c.self.view_is c.in_ok-push_step.ensures.ok
