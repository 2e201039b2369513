use Rattle.std.proofs.Common.{◌≡◌, ◌+◌, ◌≤◌, ◌++◌, length}
use Rattle.rec_batch.specs.Written.{records_bytes}
use Rattle.rec_batch.proofs.write.put_records.Given as goal

abbrev pub invariant-loop-first : goal.invariant-loop-first
invariant-loop-first l = record {
  whole : l.out ++ records_bytes l.delta l.rest ≡ l.fn.out ++ records_bytes 0 l.fn.records;
  grown : length l.fn.out ≤ length l.out;
  number : l.delta + length l.rest ≡ length l.fn.records;
}

abbrev pub decreases-loop-first : goal.decreases-loop-first
decreases-loop-first l = length l.rest
