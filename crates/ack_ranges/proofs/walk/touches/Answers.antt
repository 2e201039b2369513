use Rattle.std.proofs.Common.{◌≡◌, ◌∙◌, ◌+◌, ℕ, ap, sym, arith}
use Rattle.std.specs.Prelude.{nat_eq}
use Rattle.ack_ranges.specs.Walking.{kind_number}
use Rattle.ack_ranges.proofs.Joins.{touches_next, false_touches, is_next, not_next, not_less}
use Rattle.ack_ranges.proofs.walk.touches.Goals as goal
use Rattle.ack_ranges.proofs.walk.touches.Goals.{then-piece-span, else-piece-span}

pub returns-then-span-piece-eq1 : goal.returns-then-span-piece-eq1
returns-then-span-piece-eq1 c =
    let piece = c.args.piece.now in
    let span = c.args.span.now in
    let next : span.first ≡ piece.last + 1 = elim c.if-piece-span.branch [
      | then-piece-span w ↦ is_next piece.last span.first _ c.if-span-piece-eq1.true w.if-piece-span.true w.value-is
      | else-piece-span w ↦ absurd (not_less piece.last span.first _ c.if-span-piece-eq1.true w.if-piece-span.false w.value-is)
    ]
    in
    ap (λ (n : ℕ). nat_eq n c.number_of-then-span-piece-eq1.result) c.number_of.ensures
    ∙ ap (λ (n : ℕ). nat_eq (kind_number piece.kind) n) c.number_of-then-span-piece-eq1.ensures
    ∙ sym (touches_next piece span next)

pub returns-else-span-piece-eq1 : goal.returns-else-span-piece-eq1
returns-else-span-piece-eq1 c =
    let piece = c.args.piece.now in
    let span = c.args.span.now in
    c.if-span-piece-eq1.false ∙ sym (false_touches piece span (λ next kind. elim c.if-piece-span.branch [
      | then-piece-span w ↦ not_next piece.last span.first _ c.if-span-piece-eq1.false w.if-piece-span.true w.value-is next
      | else-piece-span w ↦ absurd (omega (arith, w.if-piece-span.false, next))
    ]))
