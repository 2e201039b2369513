use Rattle.std.proofs.Common.{◌≡◌, ◌+◌, List, length}
use Rattle.share_client.specs.Readers.{Left}
use Rattle.share_client.specs.Records.{OffsetRecord, from_offset}
use Rattle.share_client.proofs.reader.sought.Given as goal

abbrev pub invariant-loop-next : goal.invariant-loop-next
invariant-loop-next l = (records : List OffsetRecord) → Left l.fn.reader records → (rest : List OffsetRecord) × Left l.reader rest × (from_offset l.offset records ≡ from_offset l.offset rest)

abbrev pub decreases-loop-next : goal.decreases-loop-next
decreases-loop-next l = length l.reader.rest.now + l.reader.left
