use Rattle.std.proofs.Common.{◌<◌, ◌≤◌, leb, rules, arith}
use Rattle.std.proofs.lemmas.List.Sorted.{IsPartitionPoint-from_clause, IsPartitionedBy-leb}
use Rattle.lock_index.specs.declared.run.HoldRun.{HoldRun}
use Rattle.window_runs.proofs.Splits.{get_within}
use Rattle.window_runs.proofs.Counting.{at_run, firsts_rise, le_yes, le_no}
use Rattle.window_runs.proofs.search.count_begun.Goals as goal

pub returns-clause-begun : goal.returns-clause-begun
returns-clause-begun c = λ k r is lo.
    let parted = IsPartitionedBy-leb (λ (r : HoldRun). r.first) c.args.runs.now c.args.offset (firsts_rise c.args.runs.now c.requires) in
    let point = IsPartitionPoint-from_clause (λ (r : HoldRun). leb r.first c.args.offset) _ _ c.partition_point.ensures.partitioned parted (λ a r q k. search rules) in
    at_run (λ (z : HoldRun). z.first ≤ c.args.offset) c.args.runs.now k r is (le_yes _ _ (point.0 k r (omega arith) lo))

pub returns-clause-others : goal.returns-clause-others
returns-clause-others c = λ k r is hi.
    let parted = IsPartitionedBy-leb (λ (r : HoldRun). r.first) c.args.runs.now c.args.offset (firsts_rise c.args.runs.now c.requires) in
    let point = IsPartitionPoint-from_clause (λ (r : HoldRun). leb r.first c.args.offset) _ _ c.partition_point.ensures.partitioned parted (λ a r q k. search rules) in
    at_run (λ (z : HoldRun). c.args.offset < z.first) c.args.runs.now k r is (le_no _ _ (point.1 k r hi (get_within _ _ _ is)))
