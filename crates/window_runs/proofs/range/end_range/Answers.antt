use Rattle.std.proofs.Common.{◌≡◌, ◌≤◌, ◌<◌, ◌-◌, ◌∙◌, List, length, ap, sym, subst, arith}
use Rattle.std.specs.List.{slice_get}
use Rattle.lock_index.specs.Runs.{IsCanonical}
use Rattle.lock_index.specs.declared.run.HoldRun.{HoldRun}
use Rattle.window_runs.proofs.Splits.{same_get}
use Rattle.window_runs.proofs.Cuts.{canonical_behind, each_holds}
use Rattle.window_runs.proofs.Ranges.{all_cut, met_back, met_ended, met_front, next_place, none_cut, one_more, one_more_met, run_order}
use Rattle.window_runs.proofs.range.end_range.Goals as goal

pub loop-place-init : goal.loop-place-init
loop-place-init g c =
    let xs = c.args.list.now.runs in
    let n = c.count_begun-end.result in (
      none_cut c.args.first c.args.last n xs c.requires.order c.requires.canonical
          (λ k r is hi. c.count_begun-end.ensures.others k r (ap (λ (l : List HoldRun). slice_get l k) c.list-2.ensures ∙ is) hi),
      omega arith,
      omega arith,
      c.requires.paired,
      omega arith,
      omega arith,
      omega (arith, met_front c.args.first c.args.last n xs),
      omega (arith, met_back c.args.first c.args.last n xs (λ k r is hi. c.count_begun-end.ensures.others k r (ap (λ (l : List HoldRun). slice_get l k) c.list-2.ensures ∙ is) hi)),
    )

pub overflow_cast-place : goal.overflow_cast-place
overflow_cast-place g c =
    let within : c.count_begun-end.result ≤ length c.args.list.now.runs = omega (arith, c.count_begun-end.ensures.within, ap length c.list-2.ensures) in
    omega (arith, within, c.loop-place.invariant.1, c.requires.room.few, each_holds c.args.list.now.runs c.requires.canonical, c.loop-place-test.true)

pub cut_at-gone-requires-clause-place : goal.cut_at-gone-requires-clause-place
cut_at-gone-requires-clause-place g c =
    let within : c.count_begun-end.result ≤ length c.args.list.now.runs = omega (arith, c.count_begun-end.ensures.within, ap length c.list-2.ensures) in
    (next_place c.args.first c.args.last c.loop-place.place c.args.list.now.runs c.loop-place.list.runs (omega (arith, c.loop-place-test.true)) (omega (arith, within, c.loop-place.invariant.1)) c.loop-place.invariant.0).within

pub cut_at-gone-requires-clause-canonical : goal.cut_at-gone-requires-clause-canonical
cut_at-gone-requires-clause-canonical g c =
    subst IsCanonical (sym c.loop-place.invariant.0) (canonical_behind c.args.first c.args.last c.loop-place.place c.args.list.now.runs c.requires.order c.requires.canonical)

pub cut_at-gone-requires-clause-begins : goal.cut_at-gone-requires-clause-begins
cut_at-gone-requires-clause-begins g c = λ r is.
    let xs = c.args.list.now.runs in
    let within : c.count_begun-end.result ≤ length xs = omega (arith, c.count_begun-end.ensures.within, ap length c.list-2.ensures) in
    let next = next_place c.args.first c.args.last c.loop-place.place xs c.loop-place.list.runs (omega (arith, c.loop-place-test.true)) (omega (arith, within, c.loop-place.invariant.1)) c.loop-place.invariant.0 in
    let same : next.run ≡ r = same_get c.loop-place.list.runs (c.loop-place.place - 1) next.run r next.same is in
    subst (λ (z : HoldRun). z.first ≤ c.args.last) same
    (c.count_begun-end.ensures.begun (c.loop-place.place - 1) next.run (ap (λ (l : List HoldRun). slice_get l (c.loop-place.place - 1)) c.list-2.ensures ∙ next.there)
    (omega (arith, c.loop-place-test.true, c.loop-place.invariant.1)))

pub cut_at-gone-requires-clause-ends : goal.cut_at-gone-requires-clause-ends
cut_at-gone-requires-clause-ends g c = λ r is.
    let xs = c.args.list.now.runs in
    let within : c.count_begun-end.result ≤ length xs = omega (arith, c.count_begun-end.ensures.within, ap length c.list-2.ensures) in
    let next = next_place c.args.first c.args.last c.loop-place.place xs c.loop-place.list.runs (omega (arith, c.loop-place-test.true)) (omega (arith, within, c.loop-place.invariant.1)) c.loop-place.invariant.0 in
    let same : next.run ≡ r = same_get c.loop-place.list.runs (c.loop-place.place - 1) next.run r next.same is in
    subst (λ (z : HoldRun). c.args.first ≤ z.last) same
    (c.count_ended-start.ensures.others (c.loop-place.place - 1) next.run (ap (λ (l : List HoldRun). slice_get l (c.loop-place.place - 1)) c.list.ensures ∙ next.there)
    (omega (arith, c.loop-place-test.true)))

pub cut_at-gone-requires-clause-room : goal.cut_at-gone-requires-clause-room
cut_at-gone-requires-clause-room g c = record {
  few = omega (arith, c.requires.room.few, c.loop-place.invariant.2);
  list = omega (arith, c.requires.room.list, c.loop-place.invariant.2, c.loop-place.invariant.4);
  index = omega (arith, c.requires.room.index, c.loop-place.invariant.2, c.loop-place.invariant.5);
}

pub loop-place-preserved : goal.loop-place-preserved
loop-place-preserved g c =
    let xs = c.args.list.now.runs in
    let some : 0 < c.loop-place.place = omega (arith, c.loop-place-test.true) in
    let within : c.count_begun-end.result ≤ length xs = omega (arith, c.count_begun-end.ensures.within, ap length c.list-2.ensures) in
    let next = next_place c.args.first c.args.last c.loop-place.place xs c.loop-place.list.runs some (omega (arith, within, c.loop-place.invariant.1)) c.loop-place.invariant.0 in
    let begins : next.run.first ≤ c.args.last = c.count_begun-end.ensures.begun (c.loop-place.place - 1) next.run (ap (λ (l : List HoldRun). slice_get l (c.loop-place.place - 1)) c.list-2.ensures ∙ next.there)
    (omega (arith, c.loop-place-test.true, c.loop-place.invariant.1)) in
    let ends : c.args.first ≤ next.run.last = c.count_ended-start.ensures.others (c.loop-place.place - 1) next.run (ap (λ (l : List HoldRun). slice_get l (c.loop-place.place - 1)) c.list.ensures ∙ next.there)
    (omega (arith, c.loop-place-test.true)) in
    let met = one_more_met c.args.first c.args.last c.loop-place.place xs next.run some next.there c.requires.order (run_order xs (c.loop-place.place - 1) next.run c.requires.canonical next.there) begins ends in (
      one_more c.args.first c.args.last c.loop-place.place xs c.loop-place.list.runs c.cut_at-gone.new.list.runs next.run some c.loop-place.invariant.0 next.there (c.cut_at-gone.ensures.runs next.run next.same),
      omega (arith, c.loop-place.invariant.1),
      omega (arith, c.loop-place.invariant.2, c.cut_at-gone.ensures.gone),
      c.cut_at-gone.ensures.paired,
      omega (arith, c.loop-place.invariant.4, c.cut_at-gone.ensures.list_room),
      omega (arith, c.loop-place.invariant.5, c.cut_at-gone.ensures.index_room),
      omega (arith, c.loop-place.invariant.6, c.cut_at-gone.ensures.at_most, met),
      omega (arith, c.loop-place.invariant.7, c.cut_at-gone.ensures.at_least, met),
    )

pub returns-clause-runs : goal.returns-clause-runs
returns-clause-runs g c =
    c.loop-place.invariant.0
    ∙ all_cut c.args.first c.args.last c.loop-place.place c.args.list.now.runs c.requires.order c.requires.canonical
    (λ k r is lo. c.count_ended-start.ensures.ended k r (ap (λ (l : List HoldRun). slice_get l k) c.list.ensures ∙ is) (omega (arith, lo, c.loop-place-test.false)))

pub returns-clause-at_least : goal.returns-clause-at_least
returns-clause-at_least g c =
    omega (
      arith,
      c.loop-place.invariant.7,
      met_ended c.args.first c.args.last c.loop-place.place c.args.list.now.runs
          (λ k r is lo. c.count_ended-start.ensures.ended k r (ap (λ (l : List HoldRun). slice_get l k) c.list.ensures ∙ is) (omega (arith, lo, c.loop-place-test.false))),
    )
