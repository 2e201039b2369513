use Rattle.std.proofs.Common.{◌≡◌, ◌∙◌, ◌+◌, ◌-◌, sym, subst, arith, refl, ℕ, None}
use Rattle.share_part.specs.Offering.{least_available}
use Rattle.share_part.specs.Tables.{Table}
use Rattle.share_part.proofs.Offered.{first_free, free_done, free_exhausted, free_here, free_past, none_of}
use Rattle.share_part.proofs.Walking.{lies}
use Rattle.share_part.proofs.walk.least_available.Goals as goal

pub loop-left-init : goal.loop-left-init
loop-left-init g c = (refl, c.requires.above)

pub next_slot-requires-clause-above : goal.next_slot-requires-clause-above
next_slot-requires-clause-above g c = c.loop-left.invariant.1

pub returns-in_default : goal.returns-in_default
returns-in_default g c =
    let table : Table = record { start = c.args.start; rows = c.args.rows.now.list; held = g.W.Window.held c.args.window.now } in
    sym (free_exhausted c.args.log.now.batches table c.loop-left.left (c.loop-left.left - 1) c.loop-left.from (omega (arith, c.loop-left-test.true))
    (sym c.next_slot.ensures.value ∙ c.in_default.is))
    ∙ c.loop-left.invariant.0

pub returns-then-is_some : goal.returns-then-is_some
returns-then-is_some g c =
    let table : Table = record { start = c.args.start; rows = c.args.rows.now.list; held = g.W.Window.held c.args.window.now } in
    let s = c.stretch_from-stretch.ensures in
    sym (free_here c.args.log.now.batches table c.loop-left.left (c.loop-left.left - 1) c.loop-left.from c.in-Some.slot c.stretch_from-stretch.result.count
    (omega (arith, c.loop-left-test.true)) (sym c.next_slot.ensures.value ∙ c.in-Some.is) (s.same c.in-Some.slot (omega arith) s.order)
    (sym c.is_some.ensures ∙ c.if-is_some.true))
    ∙ c.loop-left.invariant.0

pub loop-left-preserved : goal.loop-left-preserved
loop-left-preserved g c =
    let table : Table = record { start = c.args.start; rows = c.args.rows.now.list; held = g.W.Window.held c.args.window.now } in
    let s = c.stretch_from-stretch.ensures in
    let order = s.order in
    let none = none_of c.stretch_from-stretch.result.count (sym c.is_some.ensures ∙ c.if-is_some.false) in (
      subst (λ (k : ℕ). first_free c.args.log.now.batches table (c.loop-left.left - (c.min.result + 1)) (c.in-Some.slot + k) ≡ least_available c.args.log.now.batches table)
          (sym c.from-in-loop-left.ensures)
          (sym (free_past c.args.log.now.batches table c.requires.sound.rises c.loop-left.left c.loop-left.from c.in-Some.slot (c.min.result + 1)
          (sym c.next_slot.ensures.value ∙ c.in-Some.is) c.in-Some.ensures.slot.0 (omega (arith, c.min.ensures, c.from.ensures, c.loop-left-test.true))
          (λ o lo hi. lies c.args.log.now.batches c.args.rows.now.list (g.W.Window.held c.args.window.now) c.requires.lie o
          (s.there none o lo (omega (arith, hi, c.min.ensures, order))))
          (λ o lo hi. s.same o lo (omega (arith, hi, c.min.ensures, order)) ∙ none))
          ∙ c.loop-left.invariant.0),
      (let later = c.in-Some.ensures.later in omega (arith, c.loop-left.invariant.1, later)),
    )

pub returns : goal.returns
returns g c =
    let table : Table = record { start = c.args.start; rows = c.args.rows.now.list; held = g.W.Window.held c.args.window.now } in
    sym (free_done c.args.log.now.batches table c.loop-left.left c.loop-left.from (omega (arith, c.loop-left-test.false))) ∙ c.loop-left.invariant.0
