use Rattle.std.proofs.Common.{◌≡◌, ◌++◌, length, map}
use Rattle.share_client.specs.Partitions.{fresh_partition}
use Rattle.share_client.proofs.partitions.fresh_partitions.Given as goal

abbrev pub invariant-loop-partition : goal.invariant-loop-partition
invariant-loop-partition l = l.fresh.items ++ map fresh_partition l.rest ≡ map fresh_partition l.partitions

abbrev pub decreases-loop-partition : goal.decreases-loop-partition
decreases-loop-partition l = length l.rest
