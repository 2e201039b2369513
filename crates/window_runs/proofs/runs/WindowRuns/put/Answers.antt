use Rattle.std.proofs.Common.{◌≡◌, ◌≤◌, ◌<◌, ◌+◌, ◌-◌, ◌∙◌, ℕ, List, length, ap, sym, subst, arith}
use Rattle.share_model.specs.Held.{Held, hold_at}
use Rattle.lock_index.specs.Runs.{IsCanonical, held_of}
use Rattle.lock_index.specs.Windows.{WindowParts, holding}
use Rattle.lock_index.specs.declared.run.HoldRun.{HoldRun}
use Rattle.lock_index.proofs.Looks.{held_rises}
use Rattle.window_runs.specs.Cuts.{cut}
use Rattle.window_runs.proofs.Cuts.{canonical_cut, each_holds, held_cut}
use Rattle.window_runs.proofs.Joins.{holding_again, without_its}
use Rattle.window_runs.proofs.runs.WindowRuns.put.Goals as goal

pub overflow_cast-n : goal.overflow_cast-n
overflow_cast-n g c =
    let spare : (c.args.run.last + 1) - c.args.run.first ≤ c.self.inside.room - c.self.inside.count = omega (arith, c.requires.spare, ap (λ (w : WindowParts). w.spare) c.self.view_is) in
    omega (arith, spare, c.self.ranges.1.1.1.0.1)

pub overflow_add-n : goal.overflow_add-n
overflow_add-n g c =
    let spare : (c.args.run.last + 1) - c.args.run.first ≤ c.self.inside.room - c.self.inside.count = omega (arith, c.requires.spare, ap (λ (w : WindowParts). w.spare) c.self.view_is) in
    omega (arith, spare, c.self.ranges.1.1.1.0.1, c.requires.order)

pub put_run-requires-clause-canonical : goal.put_run-requires-clause-canonical
put_run-requires-clause-canonical g c =
    subst IsCanonical (sym c.end_range-gone.ensures.runs) (canonical_cut c.args.run.first c.args.run.last c.self.inside.list.runs c.requires.order c.self.invariant.canonical)

pub put_run-requires-clause-free : goal.put_run-requires-clause-free
put_run-requires-clause-free g c = λ o lo hi.
    ap (λ (l : List HoldRun). hold_at (held_of l) o) c.end_range-gone.ensures.runs
    ∙ ap (λ (h : Held). hold_at h o) (held_cut c.args.run.first c.args.run.last c.self.inside.list.runs c.requires.order c.self.invariant.canonical)
    ∙ without_its c.args.run.first c.args.run.last (held_of c.self.inside.list.runs) o lo hi

left : (old new : List HoldRun) (first last gone count room : ℕ) → first ≤ last → IsCanonical old → new ≡ cut first last old → gone + length (held_of new) ≡ length (held_of old) → count ≡ length (held_of old) → count < room
    → length new < room
left old new first last gone count room order canonical is fewer counted within =
    omega (arith, fewer, counted, within, each_holds new (subst IsCanonical (sym is) (canonical_cut first last old order canonical)))

pub put_run-requires-clause-few : goal.put_run-requires-clause-few
put_run-requires-clause-few g c =
    let spare : (c.args.run.last + 1) - c.args.run.first ≤ c.self.inside.room - c.self.inside.count = omega (arith, c.requires.spare, ap (λ (w : WindowParts). w.spare) c.self.view_is) in
    let less = left c.self.inside.list.runs c.end_range-gone.new.list.runs c.args.run.first c.args.run.last c.end_range-gone.result c.self.inside.count c.self.inside.room c.requires.order c.self.invariant.canonical
    c.end_range-gone.ensures.runs c.end_range-gone.ensures.gone c.self.invariant.counted (omega (arith, spare, c.requires.order)) in
    omega (arith, less, c.self.ranges.1.1.1.0.1)

pub put_run-requires-clause-list_room : goal.put_run-requires-clause-list_room
put_run-requires-clause-list_room g c =
    let spare : (c.args.run.last + 1) - c.args.run.first ≤ c.self.inside.room - c.self.inside.count = omega (arith, c.requires.spare, ap (λ (w : WindowParts). w.spare) c.self.view_is) in
    let less = left c.self.inside.list.runs c.end_range-gone.new.list.runs c.args.run.first c.args.run.last c.end_range-gone.result c.self.inside.count c.self.inside.room c.requires.order c.self.invariant.canonical
    c.end_range-gone.ensures.runs c.end_range-gone.ensures.gone c.self.invariant.counted (omega (arith, spare, c.requires.order)) in
    omega (arith, less, c.self.invariant.list_room, c.end_range-gone.ensures.list_room)

pub put_run-requires-clause-index_room : goal.put_run-requires-clause-index_room
put_run-requires-clause-index_room g c =
    let spare : (c.args.run.last + 1) - c.args.run.first ≤ c.self.inside.room - c.self.inside.count = omega (arith, c.requires.spare, ap (λ (w : WindowParts). w.spare) c.self.view_is) in
    let less = left c.self.inside.list.runs c.end_range-gone.new.list.runs c.args.run.first c.args.run.last c.end_range-gone.result c.self.inside.count c.self.inside.room c.requires.order c.self.invariant.canonical
    c.end_range-gone.ensures.runs c.end_range-gone.ensures.gone c.self.invariant.counted (omega (arith, spare, c.requires.order)) in
    omega (arith, less, c.self.invariant.index_room, c.end_range-gone.ensures.index_room)

pub invariant_of-self : goal.invariant_of-self
invariant_of-self g c =
    let spare : (c.args.run.last + 1) - c.args.run.first ≤ c.self.inside.room - c.self.inside.count = omega (arith, c.requires.spare, ap (λ (w : WindowParts). w.spare) c.self.view_is) in
    record {
      canonical = c.put_run.ensures.canonical;
      paired = c.put_run.ensures.paired;
      counted = omega (arith, c.put_run.ensures.more, c.end_range-gone.ensures.gone, c.self.invariant.counted, c.requires.order);
      within = omega (arith, spare, c.requires.order);
      list_room = omega (arith, c.self.invariant.list_room, c.end_range-gone.ensures.list_room, c.put_run.ensures.list_room);
      index_room = omega (arith, c.self.invariant.index_room, c.end_range-gone.ensures.index_room, c.put_run.ensures.index_room);
    }

pub returns-clause-held : goal.returns-clause-held
returns-clause-held g c =
    let runs = c.self.inside.list.runs in
    let first = c.args.run.first in
    let last = c.args.run.last in
    let n = (last + 1) - first in
    let view : held_of runs ≡ c.args.self.now.held = ap (λ (w : WindowParts). w.held) c.self.view_is in
    c.put_run.ensures.held
    ∙ ap (λ (l : List HoldRun). holding first n c.args.run.hold (held_of l)) c.end_range-gone.ensures.runs
    ∙ ap (λ (h : Held). holding first n c.args.run.hold h) (held_cut first last runs c.requires.order c.self.invariant.canonical)
    ∙ holding_again n 0 first last c.args.run.hold (held_of runs) (held_rises runs c.self.invariant.canonical) (omega (arith, c.requires.order))
    ∙ ap (λ (h : Held). holding first n c.args.run.hold h) view
