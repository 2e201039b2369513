use Rattle.std.proofs.Common.{true, false, ◌≡◌, ◌+◌, ◌-◌, ◌∙◌, ℕ, suc, List, set, ap, sym, subst, arith}
use Rattle.lock_index.specs.declared.run.HoldRun.{HoldRun}
use Rattle.window_runs.specs.Puts.{GoesOn, IsPutBehind}
use Rattle.window_runs.proofs.Splits.{same_get}
use Rattle.window_runs.proofs.Joins.{none_begins, put_longer, put_new}
use Rattle.window_runs.proofs.put.put_behind.Goals as goal

pub returns-then-goes_on-clause-runs : goal.returns-then-goes_on-clause-runs
returns-then-goes_on-clause-runs g c =
    let xs = c.args.list.now.runs in
    let n = c.args.place - 1 in
    let run = c.args.run in
    let before = c.at-before.result.now in
    let goes = subst (λ (l : List HoldRun). GoesOn l c.args.place run true) c.list.ensures (subst (GoesOn c.list.result.now c.args.place run) c.if-goes_on.true c.goes_on.ensures) in
    let same : goes.0 ≡ before = same_get xs n goes.0 before goes.1 c.at-before.ensures.run in
    let next : run.first ≡ before.last + 1 = goes.2 ∙ ap (λ (z : HoldRun). z.last + 1) same in
    let way : run.hold ≡ before.hold = goes.3 ∙ ap (λ (z : HoldRun). z.hold) same in
    let place : suc n ≡ c.args.place = omega (arith, goes.4) in
    let put = put_longer xs n before run c.requires.canonical c.requires.order c.at-before.ensures.run next way in
    subst (λ (l : List HoldRun). IsPutBehind xs c.args.place run l n) (sym c.end_at.ensures.runs)
    (subst (λ (k : ℕ). IsPutBehind xs k run (set xs n (record before { last = run.last })) n) place put)

pub add_run-requires-clause-absent : goal.add_run-requires-clause-absent
add_run-requires-clause-absent g c = none_begins c.args.list.now.runs c.args.place c.args.run c.requires.canonical c.requires.order c.requires.before c.requires.behind

pub returns-clause-runs : goal.returns-clause-runs
returns-clause-runs g c =
    let xs = c.args.list.now.runs in
    let goes = subst (λ (l : List HoldRun). GoesOn l c.args.place c.args.run false) c.list.ensures (subst (GoesOn c.list.result.now c.args.place c.args.run) c.if-goes_on.false c.goes_on.ensures) in
    subst (λ (l : List HoldRun). IsPutBehind xs c.args.place c.args.run l c.args.place) (sym c.add_run.ensures.runs)
    (put_new xs c.args.place c.args.run c.requires.canonical c.requires.order c.requires.within c.requires.before goes)
