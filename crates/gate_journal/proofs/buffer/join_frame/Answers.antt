use Rattle.std.proofs.Common.{◌≡◌, ◌∙◌, ◌++◌, ◌∷◌, ◌-◌, ◌+◌, [], ℕ, List, take, drop, ap, arith}
use Rattle.std.proofs.lemmas.List.{drop-drop}
use Rattle.gate_journal.specs.Frames.{frame_in, framed}
use Rattle.gate_journal.proofs.Grouped.{joined_text}
use Rattle.gate_journal.proofs.buffer.join_frame.Goals as goal

pub returns : goal.returns
returns c = record {
  joins = λ group is.
      let old = c.args.buffer.now in
      let n = c.args.place in
      let front : c.split_at_mut-rest.result.0.now ≡ take (n - 1) old = c.split_at_mut-rest.ensures.front in
      let behind : c.split_at_mut-gate.result.1.now ≡ drop n old =
      c.split_at_mut-gate.ensures.back ∙ ap (λ (l : List ℕ). drop 1 l) c.split_at_mut-rest.ensures.back
      ∙ drop-drop 1 (n - 1) old ∙ ap (λ (k : ℕ). drop k old) (let e : n - 1 + 1 ≡ n = omega (arith, c.if-place-eq0.false) in e) in
      let gate : c.copy_from_slice.new.self ≡ 1 ∷ [] = c.copy_from_slice.ensures.after in
      let frame : c.set_frame-2.new.buffer ≡ framed (frame_in (drop n old)) =
      c.set_frame-2.ensures ∙ ap (λ (l : List ℕ). framed (frame_in l)) behind in
      ap (λ (l : List ℕ). l ++ (c.copy_from_slice.new.self ++ c.set_frame-2.new.buffer)) front
      ∙ ap (λ (l : List ℕ). take (n - 1) old ++ (l ++ c.set_frame-2.new.buffer)) gate
      ∙ ap (λ (l : List ℕ). take (n - 1) old ++ (1 ∷ l)) frame
      ∙ joined_text old (frame_in (drop n old)) n group (omega (arith, c.if-place-eq0.false)) (omega (arith, c.requires.room)) is;
}
