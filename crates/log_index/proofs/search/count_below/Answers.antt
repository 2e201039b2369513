use Rattle.std.proofs.Common.{ltb, rules}
use Rattle.std.proofs.lemmas.List.Sorted.{IsPartitionPoint-from_clause, IsPartitionedBy-ltb}
use Rattle.log_index.proofs.Searching.{lasts_rise, ends_by}
use Rattle.log_index.proofs.search.count_below.Goals as goal

pub returns : goal.returns
returns c =
    let parted = IsPartitionedBy-ltb (λ e. e.last) c.args.entries.now c.args.offset (lasts_rise 0 c.args.entries.now c.requires) in
    let point = IsPartitionPoint-from_clause (λ e. ltb e.last c.args.offset) _ _ c.partition_point.ensures.partitioned parted (λ a r q k. search rules) in
    ends_by c.args.entries.now c.args.offset c.partition_point.result c.partition_point.ensures.bound point.0 point.1
