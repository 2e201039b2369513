use Rattle.std.proofs.Common.{length}
use Rattle.layer_rows.proofs.acks.+type_count.Given as goal

abbrev pub decreases-type_count : goal.decreases-type_count
decreases-type_count l = length l.batches.now
