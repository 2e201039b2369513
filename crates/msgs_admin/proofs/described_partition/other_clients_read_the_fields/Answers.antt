use Rattle.msgs_admin.specs.DescribedPartition.{described_partition}
use Rattle.msgs_admin.specs.HeldRecords.{HELD_TAG, held_records}
use Rattle.msgs_admin.specs.KnownTagRead.{skips_known}
use Rattle.msgs_admin.proofs.described_partition.other_clients_read_the_fields.Goals as goal

pub returns : goal.returns
unfolding described_partition
returns c bytes s stands = (stands.0, stands.1, stands.2, skips_known HELD_TAG held_records.is stands.1 s.held stands.3, stands.4)
