use Rattle.std.proofs.Common.{◌≡◌, ◌≤◌, ◌+◌, ◌*◌, ℕ, drop, length}
use Rattle.std.specs.Option.{option_or}
use Rattle.share_model.specs.Runs.{row_at}
use Rattle.share_model.specs.ShareStates.{last_row}
use Rattle.offset_runs.specs.Changes.{room_of}
use Rattle.share_coord.proofs.reserved.put_each.Given as goal

abbrev pub invariant-loop-run : goal.invariant-loop-run
invariant-loop-run l =
    record {
      puts : (o : ℕ) → option_or (last_row (drop l.run-index l.runs) o) (row_at l.rows.list o) ≡ option_or (last_row l.runs o) (row_at l.fn.rows.list o);
      spare : 2 * length (drop l.run-index l.runs) ≤ l.rows.spare;
      few : length l.rows.list + 2 * length (drop l.run-index l.runs) ≤ length l.fn.rows.list + 2 * length l.runs;
      room : room_of l.fn.rows ≤ room_of l.rows;
    }
