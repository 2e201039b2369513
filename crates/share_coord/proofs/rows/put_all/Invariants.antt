use Rattle.std.proofs.Common.{◌≡◌, ℕ, drop}
use Rattle.std.specs.Option.{option_or}
use Rattle.share_model.specs.Runs.{row_at}
use Rattle.share_model.specs.ShareStates.{last_row}
use Rattle.share_coord.proofs.rows.put_all.Given as goal

abbrev pub invariant-loop-run : goal.invariant-loop-run
invariant-loop-run l = (o : ℕ) → option_or (last_row (drop l.run-index l.runs) o) (row_at l.out.list o) ≡ last_row l.runs o
