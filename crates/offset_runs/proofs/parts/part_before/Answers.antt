use Rattle.std.proofs.Common.{arith, ◌-◌}
use Rattle.share_model.specs.declared.row.RowState.TheVariants.{Available}
use Rattle.share_model.specs.declared.run.Run.{Run}
use Rattle.offset_runs.proofs.Places.{begin_count-none, begin_count-place}
use Rattle.offset_runs.proofs.parts.part_before.Goals as goal

pub returns-then-count-eq0-clause-parts : goal.returns-then-count-eq0-clause-parts
returns-then-count-eq0-clause-parts c = begin_count-none c.args.runs.now c.args.offset (omega arith)

pub returns-clause-parts : goal.returns-clause-parts
returns-clause-parts c =
    let default : Run = record { first = 0; last = 0; state = Available; count = 0 } in
    let last = begin_count-place c.args.runs.now c.args.offset (c.count_begun-count.result - 1) default c.requires (omega arith) in
    rw c.run_before.ensures last.parts

pub run_before-requires : goal.run_before-requires
run_before-requires c =
    let default : Run = record { first = 0; last = 0; state = Available; count = 0 } in
    let last = begin_count-place c.args.runs.now c.args.offset (c.count_begun-count.result - 1) default c.requires (omega arith) in
    omega (arith, last.begins)
