use Rattle.std.proofs.Common.{◌+◌, leb, rules}
use Rattle.std.proofs.lemmas.List.Sorted.{IsPartitionPoint-from_clause, IsPartitionedBy-leb}
use Rattle.offset_runs.proofs.Counts.{lasts_rise, counted-end_count, upto}
use Rattle.offset_runs.proofs.search.count_ended_by.Goals as goal

pub returns-clause-count : goal.returns-clause-count
returns-clause-count c =
    let parted = IsPartitionedBy-leb (λ r. r.last) c.args.runs.now c.args.offset (lasts_rise c.args.runs.now c.requires) in
    let point = IsPartitionPoint-from_clause (λ r. leb r.last c.args.offset) _ _ c.partition_point.ensures.partitioned parted (λ a r q k. search rules) in
    counted-end_count (c.args.offset + 1) c.args.runs.now c.partition_point.result c.partition_point.ensures.bound
    (λ k d lo hi. upto _ c.args.offset _ (point.0 k d lo hi)) (λ k d lo hi. upto _ c.args.offset _ (point.1 k d lo hi))
