use Rattle.std.proofs.Common.{◌≡◌, ◌+◌, ◌≤◌, length}
use Rattle.rec_batch.specs.Written.{records_bytes}
use Rattle.rec_batch.proofs.write.fits_batch.Given as goal

abbrev pub invariant-loop-first : goal.invariant-loop-first
invariant-loop-first l = record {
  whole : length (records_bytes 0 l.fn.records) + l.room ≡ 1048527 + length (records_bytes l.delta l.rest);
  few : l.delta + l.room ≤ 1048527;
}

abbrev pub decreases-loop-first : goal.decreases-loop-first
decreases-loop-first l = length l.rest
