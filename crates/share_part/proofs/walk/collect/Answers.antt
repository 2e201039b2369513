use Rattle.std.proofs.Common.{◌++◌, ◌≤◌, ◌+◌, ◌-◌, ◌∙◌, sym, subst, arith, ℕ, Option}
use Rattle.std.specs.Prelude.{IfSome}
use Rattle.share_part.specs.Tables.{Table}
use Rattle.share_part.specs.Collecting.{GoesOver, left_by}
use Rattle.share_part.proofs.Walking.{IsWalking, begins, done, exhausted, stopped, went_over}
use Rattle.share_part.proofs.walk.collect.Goals as goal

pub loop-left-init : goal.loop-left-init
loop-left-init g c = (omega (arith, c.new-collector.ensures.grants), begins c.args.log.now.batches _ c.args.limits c.new-collector.result (c.new-collector.ensures.begins c.args.log.now.batches), c.requires.above)

pub returns-in_default-clause-takes : goal.returns-in_default-clause-takes
returns-in_default-clause-takes g c =
    exhausted c.args.log.now.batches _ c.args.limits c.loop-left.collector c.loop-left.left (c.loop-left.left - 1) c.loop-left.from
    (omega (arith, c.loop-left-test.true)) c.loop-left.invariant.1 (sym c.next_slot.ensures.value ∙ c.in_default.is)

pub returns-in_default-2-clause-takes : goal.returns-in_default-2-clause-takes
returns-in_default-2-clause-takes g c =
    let w = c.loop-left.invariant.1 in
    let table : Table = record { start = c.args.start; rows = c.args.changed.now ++ c.args.rows.now.list; held = left_by c.args.changed.now (g.W.Window.held c.args.window.now) } in
    stopped c.args.log.now.batches (record { start = c.args.start; rows = c.args.changed.now ++ c.args.rows.now.list; held = left_by c.args.changed.now (g.W.Window.held c.args.window.now) }) c.args.limits c.loop-left.collector c.loop-left.left (c.loop-left.left - 1) c.loop-left.from
    (omega (arith, c.loop-left-test.true)) w c.in-Some.slot (sym c.next_slot.ensures.value ∙ c.in-Some.is) c.step.new.collector
    (subst (λ (o : Option ℕ). GoesOver c.args.log.now.batches table c.step.new.collector w.walk c.in-Some.slot o) c.in_default-2.is (c.in_ok-n.ensures.goes c.args.start w.walk w.collects))

pub loop-left-smaller : goal.loop-left-smaller
loop-left-smaller g c =
    let w = c.loop-left.invariant.1 in
    let table : Table = record { start = c.args.start; rows = c.args.changed.now ++ c.args.rows.now.list; held = left_by c.args.changed.now (g.W.Window.held c.args.window.now) } in
    let goes = subst (λ (o : Option ℕ). GoesOver c.args.log.now.batches table c.step.new.collector w.walk c.in-Some.slot o) c.in-Some-2.is (c.in_ok-n.ensures.goes c.args.start w.walk w.collects) in
    omega (arith, goes.1, c.loop-left-test.true)

pub loop-left-preserved : goal.loop-left-preserved
loop-left-preserved g c =
    let w = c.loop-left.invariant.1 in
    let table : Table = record { start = c.args.start; rows = c.args.changed.now ++ c.args.rows.now.list; held = left_by c.args.changed.now (g.W.Window.held c.args.window.now) } in
    let goes = subst (λ (o : Option ℕ). GoesOver c.args.log.now.batches table c.step.new.collector w.walk c.in-Some.slot o) c.in-Some-2.is (c.in_ok-n.ensures.goes c.args.start w.walk w.collects) in
    let few : c.in-Some-2.n ≤ c.loop-left.left = subst (λ (o : Option ℕ). IfSome o (λ n. n ≤ c.loop-left.left)) c.in-Some-2.is c.in_ok-n.ensures.most in (
      omega (arith, c.loop-left.invariant.0, c.in_ok-n.ensures.grants, goes.1, few),
      subst (λ (k : ℕ). IsWalking c.args.log.now.batches table c.args.limits c.step.new.collector (c.loop-left.left - c.in-Some-2.n) (c.in-Some.slot + k)) (sym c.from.ensures)
          (went_over c.args.log.now.batches table c.args.limits c.requires.sound.rises c.loop-left.collector c.step.new.collector c.loop-left.left c.loop-left.from c.in-Some.slot c.in-Some-2.n
          w (sym c.next_slot.ensures.value ∙ c.in-Some.is) c.in-Some.ensures.slot.0 few goes),
      (let later = c.in-Some.ensures.later in omega (arith, c.loop-left.invariant.2, later, c.from.ensures)),
    )

pub returns-clause-takes : goal.returns-clause-takes
returns-clause-takes g c = done c.args.log.now.batches _ c.args.limits c.loop-left.collector c.loop-left.left c.loop-left.from (omega (arith, c.loop-left-test.false)) c.loop-left.invariant.1

pub next_slot-requires-clause-above : goal.next_slot-requires-clause-above
next_slot-requires-clause-above g c = c.loop-left.invariant.2

pub step-requires-clause-above : goal.step-requires-clause-above
step-requires-clause-above g c = let later = c.in-Some.ensures.later in omega (arith, c.loop-left.invariant.2, later)
