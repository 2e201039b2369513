use Rattle.std.proofs.Common.{◌+◌, ◌-◌, ◌≤◌, List}
use Rattle.share_client.specs.Readers.{LeftFrom}
use Rattle.share_client.specs.Records.{OffsetRecord}
use Rattle.share_client.proofs.Delivering.{Slotted}
use Rattle.share_client.proofs.grants.read_slots.Given as goal

abbrev pub invariant-loop-offset : goal.invariant-loop-offset
invariant-loop-offset l = record {
  upto : l.offset ≤ l.last + 1;
  slotted : (records : List OffsetRecord) → LeftFrom l.first records l.fn.reader
      → Slotted (l.name.topic, l.name.partition) l.acquired.delivery_count l.first l.last records l.fn.page l.offset l.reader l.types.items l.page;
}

abbrev pub decreases-loop-offset : goal.decreases-loop-offset
decreases-loop-offset l = l.last + 1 - l.offset
