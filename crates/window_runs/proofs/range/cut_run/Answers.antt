use Rattle.std.proofs.Common.{◌+◌, ◌-◌, ◌++◌, ◌∙◌, suc, List, take, drop, ap, sym, arith}
use Rattle.lock_index.specs.declared.run.HoldRun.{HoldRun}
use Rattle.window_runs.proofs.Splits.{get_within, set_split}
use Rattle.window_runs.proofs.Cuts.{cut_whole, cut_end, cut_begin, each_holds}
use Rattle.window_runs.proofs.Ranges.{run_holds}
use Rattle.window_runs.proofs.range.cut_run.Goals as goal

pub split_run-requires-clause-few : goal.split_run-requires-clause-few
split_run-requires-clause-few g c = omega (arith, c.requires.room.few, each_holds c.args.list.now.runs c.requires.canonical)

pub split_run-requires-clause-list_room : goal.split_run-requires-clause-list_room
split_run-requires-clause-list_room g c =
    omega (arith, c.requires.room.list, run_holds c.args.list.now.runs c.args.place c.args.run c.requires.canonical c.requires.run, c.if-run-first.true, c.if-last-run.true, c.requires.order)

pub split_run-requires-clause-index_room : goal.split_run-requires-clause-index_room
split_run-requires-clause-index_room g c =
    omega (arith, c.requires.room.index, run_holds c.args.list.now.runs c.args.place c.args.run c.requires.canonical c.requires.run, c.if-run-first.true, c.if-last-run.true, c.requires.order)

pub begin_at-requires-clause-room : goal.begin_at-requires-clause-room
begin_at-requires-clause-room g c = omega (arith, c.requires.room.index, each_holds c.args.list.now.runs c.requires.canonical)

pub drop_run-requires-clause-place : goal.drop_run-requires-clause-place
drop_run-requires-clause-place g c = get_within _ _ _ c.requires.run

pub returns-else-last-run-clause-runs : goal.returns-else-last-run-clause-runs
returns-else-last-run-clause-runs g c =
    let xs = c.args.list.now.runs in
    c.end_at.ensures.runs ∙ set_split xs c.args.place (record c.args.run { last = c.args.first - 1 }) (get_within _ _ _ c.requires.run)
    ∙ ap (λ (l : List HoldRun). take c.args.place xs ++ (l ++ drop (suc c.args.place) xs)) (sym (cut_end c.args.first c.args.last c.args.run c.if-run-first.true c.requires.ends (omega (arith, c.if-last-run.false))))

pub returns-then-last-run-2-clause-runs : goal.returns-then-last-run-2-clause-runs
returns-then-last-run-2-clause-runs g c =
    let xs = c.args.list.now.runs in
    c.begin_at.ensures.runs ∙ set_split xs c.args.place (record c.args.run { first = c.args.last + 1 }) (get_within _ _ _ c.requires.run)
    ∙ ap (λ (l : List HoldRun). take c.args.place xs ++ (l ++ drop (suc c.args.place) xs)) (sym (cut_begin c.args.first c.args.last c.args.run (omega (arith, c.if-run-first.false)) c.requires.begins c.if-last-run-2.true))

pub returns-else-last-run-2-clause-runs : goal.returns-else-last-run-2-clause-runs
returns-else-last-run-2-clause-runs g c =
    let xs = c.args.list.now.runs in
    c.drop_run.ensures.runs
    ∙ ap (λ (l : List HoldRun). take c.args.place xs ++ (l ++ drop (suc c.args.place) xs)) (sym (cut_whole c.args.first c.args.last c.args.run (omega (arith, c.if-run-first.false)) (omega (arith, c.if-last-run-2.false))))
