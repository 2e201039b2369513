use Rattle.std.proofs.Common.{rules, ◌≡◌, ◌++◌, ◌∷◌, [], arith, ap, ◌∙◌, List, ℕ}
use Rattle.gate_journal.proofs.Texts.{more_read, more_fit, more_at}
use Rattle.gate_journal.proofs.text.read_text.Goals as goal

pub loop-gate-preserved : goal.loop-gate-preserved
loop-gate-preserved c =
    let pushed : c.push.new.self.items ≡ c.loop-gate.frames.items ++ c.in-Some-next_frame.frame.now ∷ [] = c.in_default-push.ensures.items
    ∙ ap (λ (b : List ℕ). c.loop-gate.frames.items ++ b ∷ []) c.in-Ok.ensures in
    let gate : c.in-Some.gate.now ≡ 1 = grind (arith, c.if-gate-ne1.false) in
    let rest : c.loop-gate.rest.now ≡ c.in-Some.gate.now ∷ c.in-Some.behind.now = search rules in
    let next = c.in-Some-next_frame.ensures in
    record {
      read = more_read _ _ _ pushed _ _ _ _ _ c.loop-gate.invariant.read rest gate next.2;
      fit = more_fit _ _ _ pushed c.loop-gate.invariant.fit next.0;
      at = more_at _ _ _ pushed _ c.loop-gate.invariant.at;
      more = next.1;
      long = c.loop-gate.invariant.long;
      few = c.loop-gate.invariant.few;
    }
