use Rattle.std.proofs.Common.{rules}
use Rattle.std.proofs.lemmas.List.Sorted.{IsPartitionPoint-from_clause}
use Rattle.lock_index.specs.Locks.{comes_before}
use Rattle.lock_index.proofs.Ordering.{parted, counted}
use Rattle.lock_index.proofs.pairs.count_before.Goals as goal

pub returns-clause-count : goal.returns-clause-count
returns-clause-count c =
    let point = IsPartitionPoint-from_clause (λ r. comes_before r (c.args.end, c.args.first)) _ _ c.partition_point.ensures.partitioned
    (parted c.args.pairs.now (c.args.end, c.args.first) c.requires) (λ a r q k. search rules) in
    counted (c.args.end, c.args.first) c.args.pairs.now c.partition_point.result c.partition_point.ensures.bound point.0 point.1
