use Rattle.std.proofs.Common.{◌≡◌, ◌≤◌, ◌+◌, ◌*◌, ◌++◌, take}
use Rattle.std.specs.List.{flat_map}
use Rattle.state_records.specs.Spelling.{run_bytes}
use Rattle.state_records.proofs.writing.put_each.Given as goal

abbrev pub invariant-loop-run : goal.invariant-loop-run
invariant-loop-run l = record {
  bytes : l.out.bytes ≡ l.fn.out.bytes ++ flat_map run_bytes (take l.run-index l.runs);
  spare : l.fn.out.spare ≤ l.out.spare + 19 * l.run-index;
}
