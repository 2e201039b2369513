use Rattle.std.proofs.Common.{ltb, rules}
use Rattle.std.proofs.lemmas.List.Sorted.{IsPartitionPoint-from_clause, IsPartitionedBy-ltb}
use Rattle.offset_runs.proofs.Counts.{lasts_rise, counted-end_count}
use Rattle.share_part.proofs.advance.count_ended.Goals as goal

pub returns-clause-count : goal.returns-clause-count
returns-clause-count c =
    let parted = IsPartitionedBy-ltb (λ r. r.last) c.args.runs.now c.args.offset (lasts_rise c.args.runs.now c.requires) in
    let point = IsPartitionPoint-from_clause (λ r. ltb r.last c.args.offset) _ _ c.partition_point.ensures.partitioned parted (λ a r q k. search rules) in
    counted-end_count c.args.offset c.args.runs.now c.partition_point.result c.partition_point.ensures.bound point.0 point.1
