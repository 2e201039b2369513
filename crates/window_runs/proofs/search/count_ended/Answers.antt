use Rattle.std.proofs.Common.{◌<◌, ◌≤◌, ltb, rules, arith}
use Rattle.std.proofs.lemmas.List.Sorted.{IsPartitionPoint-from_clause, IsPartitionedBy-ltb}
use Rattle.lock_index.specs.declared.run.HoldRun.{HoldRun}
use Rattle.window_runs.proofs.Splits.{get_within}
use Rattle.window_runs.proofs.Counting.{at_run, lasts_rise, lt_yes, lt_no}
use Rattle.window_runs.proofs.search.count_ended.Goals as goal

pub returns-clause-ended : goal.returns-clause-ended
returns-clause-ended c = λ k r is lo.
    let parted = IsPartitionedBy-ltb (λ (r : HoldRun). r.last) c.args.runs.now c.args.offset (lasts_rise c.args.runs.now c.requires) in
    let point = IsPartitionPoint-from_clause (λ (r : HoldRun). ltb r.last c.args.offset) _ _ c.partition_point.ensures.partitioned parted (λ a r q k. search rules) in
    at_run (λ (z : HoldRun). z.last < c.args.offset) c.args.runs.now k r is (lt_yes _ _ (point.0 k r (omega arith) lo))

pub returns-clause-others : goal.returns-clause-others
returns-clause-others c = λ k r is hi.
    let parted = IsPartitionedBy-ltb (λ (r : HoldRun). r.last) c.args.runs.now c.args.offset (lasts_rise c.args.runs.now c.requires) in
    let point = IsPartitionPoint-from_clause (λ (r : HoldRun). ltb r.last c.args.offset) _ _ c.partition_point.ensures.partitioned parted (λ a r q k. search rules) in
    at_run (λ (z : HoldRun). c.args.offset ≤ z.last) c.args.runs.now k r is (lt_no _ _ (point.1 k r hi (get_within _ _ _ is)))
