use Rattle.std.proofs.Common.{◌+◌, ◌-◌, ◌++◌, ◌∙◌, ℕ, suc, List, set, take, drop, ap, sym, subst, arith, refl}
use Rattle.std.specs.List.{insert}
use Rattle.lock_index.specs.declared.run.HoldRun.{HoldRun}
use Rattle.window_runs.specs.Kept.{HasFirst}
use Rattle.window_runs.proofs.Splits.{plus_one, get_within, set_and_insert}
use Rattle.window_runs.proofs.Indexes.{within_apart}
use Rattle.window_runs.proofs.Cuts.{cut_middle}
use Rattle.window_runs.proofs.Ranges.{set_first}
use Rattle.window_runs.proofs.range.split_run.Goals as goal

pub add_run-requires-clause-absent : goal.add_run-requires-clause-absent
add_run-requires-clause-absent g c = λ has.
    within_apart c.args.list.now.runs c.args.place c.args.run (c.args.last + 1) c.requires.canonical c.requires.run (omega (arith, c.requires.before, c.requires.order)) (omega (arith, c.requires.behind))
    (set_first c.args.list.now.runs c.args.place (c.args.last + 1) c.args.run (record c.args.run { last = c.args.first - 1 }) c.requires.run refl
    (subst (λ (l : List HoldRun). HasFirst l (c.args.last + 1)) c.end_at.ensures.runs has))

pub returns-clause-runs : goal.returns-clause-runs
returns-clause-runs g c =
    let xs = c.args.list.now.runs in
    let right : HoldRun = record c.args.run { first = c.args.last + 1 } in
    c.add_run.ensures.runs ∙ ap (λ (l : List HoldRun). insert l (c.args.place + 1) right) c.end_at.ensures.runs
    ∙ ap (λ (n : ℕ). insert (set xs c.args.place (record c.args.run { last = c.args.first - 1 })) n right) (plus_one c.args.place)
    ∙ set_and_insert xs c.args.place (record c.args.run { last = c.args.first - 1 }) right (get_within _ _ _ c.requires.run)
    ∙ ap (λ (l : List HoldRun). take c.args.place xs ++ (l ++ drop (suc c.args.place) xs)) (sym (cut_middle c.args.first c.args.last c.args.run c.requires.order c.requires.before c.requires.behind))
