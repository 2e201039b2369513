use Rattle.std.proofs.Common.{arith, ◌+◌, ◌∙◌, sym, add-one}
use Rattle.share_model.specs.declared.row.RowState.TheVariants.{Available}
use Rattle.share_model.specs.declared.run.Run.{Run}
use Rattle.offset_runs.proofs.Places.{end_count-none, end_count-place, drop-whole}
use Rattle.offset_runs.proofs.parts.part_behind.Goals as goal

pub returns-then-count-runs-clause-parts : goal.returns-then-count-runs-clause-parts
returns-then-count-runs-clause-parts c =
    end_count-none c.args.runs.now (c.args.offset + 1) (omega arith) ∙ sym (drop-whole c.args.runs.now c.count_ended_by-count.result (omega arith))

pub returns-clause-parts : goal.returns-clause-parts
returns-clause-parts c =
    let default : Run = record { first = 0; last = 0; state = Available; count = 0 } in
    let first = end_count-place c.args.runs.now (c.args.offset + 1) c.count_ended_by-count.result default (omega arith) (omega arith) in
    rw (c.run_behind.ensures, add-one c.count_ended_by-count.result) first.parts

pub run_behind-requires : goal.run_behind-requires
run_behind-requires c =
    let default : Run = record { first = 0; last = 0; state = Available; count = 0 } in
    let first = end_count-place c.args.runs.now (c.args.offset + 1) c.count_ended_by-count.result default (omega arith) (omega arith) in
    omega (arith, first.ends)
