use Rattle.std.proofs.Common.{arith, sym}
use Rattle.share_model.specs.declared.row.RowState.TheVariants.{Available}
use Rattle.share_model.specs.declared.run.Run.{Run}
use Rattle.offset_runs.proofs.Places.{look-place, look-gap, look-none}
use Rattle.offset_runs.proofs.search.find_row.Goals as goal

pub returns-then-place-runs : goal.returns-then-place-runs
returns-then-place-runs c = sym (look-none c.args.runs.now c.args.offset c.requires (omega arith))

pub returns-then-run-offset : goal.returns-then-run-offset
returns-then-run-offset c =
    let default : Run = record { first = 0; last = 0; state = Available; count = 0 } in
    rw c.row.ensures (sym (look-place c.args.runs.now c.args.offset c.count_ended-place.result default c.requires (omega arith) (omega arith) (omega arith)))

pub returns-else-run-offset : goal.returns-else-run-offset
returns-else-run-offset c =
    let default : Run = record { first = 0; last = 0; state = Available; count = 0 } in
    sym (look-gap c.args.runs.now c.args.offset c.count_ended-place.result default c.requires (omega arith) (omega arith) (omega arith))
