-- How far a group has come with a partition, in the reply to DescribeShareGroupOffsets of version 1 (KIP-932 with KIP-1226,
-- DescribeShareGroupOffsetsResponse.json), and with it what the group holds.
-- For example the partition 0 with the start 5, the lag 3 and no word of what is held is
-- `00000000 0000000000000005 00000000 0000000000000003 0000 00 00`.
use Rattle.std.specs.Prelude.{ℕ, ℤ, List, Option, refl}
use Rattle.flex_fields.specs.Formats.{Format, Shape, ◌▹◌, null_string, int16, int32, int64}
use Rattle.flex_fields.specs.Grammar.{Tagged}
use Rattle.msgs_admin.specs.declared.described_partition.DescribedPartition.{DescribedPartition}
use Rattle.msgs_admin.specs.declared.held_records.HeldRecords.{HeldRecords}
use Rattle.msgs_admin.specs.HeldRecords.{structure_with_held}

-- the fields that Kafka's schema has
abbrev pub PartitionFields : Type 0
PartitionFields = ℤ × (ℤ × (ℤ × (ℤ × (ℤ × Option (List ℕ)))))

abbrev pub partition_fields : Format PartitionFields
partition_fields = int32 ▹ int64 ▹ int32 ▹ int64 ▹ int16 ▹ null_string

abbrev pub described_partition_shape : Shape DescribedPartition (PartitionFields × Option HeldRecords)
described_partition_shape = record {
  make = λ x. record {
    partition_index = x.0.0;
    start_offset = x.0.1.0;
    leader_epoch = x.0.1.1.0;
    lag = x.0.1.1.1.0;
    error_code = x.0.1.1.1.1.0;
    error_message = x.0.1.1.1.1.1;
    held = x.1;
  };
  parts = λ s. ((s.partition_index, (s.start_offset, (s.leader_epoch, (s.lag, (s.error_code, s.error_message))))), s.held);
  back = λ _. refl;
  there = λ _. refl;
}

unfoldable pub described_partition : Format DescribedPartition
described_partition = structure_with_held described_partition_shape partition_fields

-- a reader of Kafka's schema, which knows no tag, reads the same fields
abbrev pub OthersRead : Type 0
OthersRead = (bytes : List ℕ) (s : DescribedPartition) → described_partition.is bytes s
    → Tagged partition_fields.is bytes (described_partition_shape.parts s).0
