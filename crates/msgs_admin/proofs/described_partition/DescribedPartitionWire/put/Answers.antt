use Rattle.msgs_admin.specs.DescribedPartition.{described_partition_shape, described_partition, partition_fields}
use Rattle.msgs_admin.proofs.Tags.{with_held_put}
use Rattle.msgs_admin.proofs.described_partition.DescribedPartitionWire.put.Goals as goal

pub returns-clause-ok : goal.returns-clause-ok
unfolding described_partition
returns-clause-ok c =
    with_held_put described_partition_shape partition_fields c.args.out.now c.put_behind.new.out c.args.self.now
    c.put_behind.result c.put_behind.ensures.ok
