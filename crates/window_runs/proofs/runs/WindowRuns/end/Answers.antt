use Rattle.std.proofs.Common.{ℕ, ◌≡◌, ◌≤◌, ◌+◌, ◌*◌, ◌∙◌, List, ap, sym, subst, arith}
use Rattle.share_model.specs.Held.{Held, without_range}
use Rattle.lock_index.specs.Runs.{IsCanonical, IsRunList, held_of, met_count}
use Rattle.lock_index.specs.Windows.{WindowParts}
use Rattle.lock_index.specs.declared.run.HoldRun.{HoldRun}
use Rattle.lock_index.proofs.OneList.{one_run_list}
use Rattle.lock_index.specs.Runs.{RunsInRoom}
use Rattle.lock_index.specs.Locks.{PairsInRoom}
use Rattle.window_runs.specs.Kept.{IsKept}
use Rattle.window_runs.proofs.Ranges.{none_met}
use Rattle.window_runs.proofs.Cuts.{canonical_cut, held_cut, without_nothing}
use Rattle.window_runs.proofs.runs.WindowRuns.end.Goals as goal

pub returns-then-last-first-clause-held : goal.returns-then-last-first-clause-held
returns-then-last-first-clause-held g c = without_nothing c.args.first c.args.last c.args.self.now.held c.if-last-first.true

pub invariant_of-self : goal.invariant_of-self
invariant_of-self g c = record {
  canonical = subst IsCanonical (sym c.end_range-gone.ensures.runs) (canonical_cut c.args.first c.args.last c.self.inside.list.runs (omega (arith, c.if-last-first.false)) c.self.invariant.canonical);
  paired = c.end_range-gone.ensures.paired;
  counted = omega (arith, c.end_range-gone.ensures.gone, c.self.invariant.counted);
  within = omega (arith, c.self.invariant.within);
  list_room = omega (arith, c.self.invariant.list_room, c.end_range-gone.ensures.list_room);
  index_room = omega (arith, c.self.invariant.index_room, c.end_range-gone.ensures.index_room);
}

pub returns-clause-held : goal.returns-clause-held
returns-clause-held g c =
    let view : held_of c.self.inside.list.runs ≡ c.args.self.now.held = ap (λ (w : WindowParts). w.held) c.self.view_is in
    ap held_of c.end_range-gone.ensures.runs
    ∙ held_cut c.args.first c.args.last c.self.inside.list.runs (omega (arith, c.if-last-first.false)) c.self.invariant.canonical
    ∙ ap (λ (h : Held). without_range c.args.first c.args.last h) view

pub returns-then-last-first-clause-at_least : goal.returns-then-last-first-clause-at_least
returns-then-last-first-clause-at_least g c = λ runs is. omega (arith, none_met c.args.first c.args.last runs c.if-last-first.true)

the_runs : (held : Held) (list : RunsInRoom) (index : PairsInRoom) (count room : ℕ) (runs : List HoldRun) → IsKept list index count room → held_of list.runs ≡ held → IsRunList held runs
    → list.runs ≡ runs
the_runs held list index count room runs kept view is = one_run_list held list.runs runs (record { canonical = kept.canonical; same = view }) is

pub returns-clause-at_most : goal.returns-clause-at_most
returns-clause-at_most g c = λ runs is.
    let view : held_of c.self.inside.list.runs ≡ c.args.self.now.held = ap (λ (w : WindowParts). w.held) c.self.view_is in
    subst (λ (l : List HoldRun). c.end_range-gone.new.steps ≤ c.args.steps.now + 3 * met_count c.args.first c.args.last l)
    (the_runs c.args.self.now.held c.self.inside.list c.self.inside.index c.self.inside.count c.self.inside.room runs c.self.invariant view is) c.end_range-gone.ensures.at_most

pub returns-clause-at_least : goal.returns-clause-at_least
returns-clause-at_least g c = λ runs is.
    let view : held_of c.self.inside.list.runs ≡ c.args.self.now.held = ap (λ (w : WindowParts). w.held) c.self.view_is in
    subst (λ (l : List HoldRun). c.args.steps.now + met_count c.args.first c.args.last l ≤ c.end_range-gone.new.steps)
    (the_runs c.args.self.now.held c.self.inside.list c.self.inside.index c.self.inside.count c.self.inside.room runs c.self.invariant view is) c.end_range-gone.ensures.at_least
