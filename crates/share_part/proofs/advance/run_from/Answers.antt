use Rattle.std.proofs.Common.{arith, sym}
use Rattle.share_model.specs.declared.row.RowState.TheVariants.{Available}
use Rattle.share_model.specs.declared.run.Run.{Run}
use Rattle.share_part.proofs.Advancing.{ends_from, in_order, none_from, row_from}
use Rattle.share_part.proofs.advance.run_from.Goals as goal

pub returns-then-place-runs-clause-none : goal.returns-then-place-runs-clause-none
returns-then-place-runs-clause-none c = none_from c.args.runs.now c.args.offset c.requires (omega (arith, c.count_ended-place.ensures.count, c.if-place-runs.true)) c.args.offset (omega arith)

pub returns-then-place-runs-clause-behind : goal.returns-then-place-runs-clause-behind
returns-then-place-runs-clause-behind c = none_from c.args.runs.now c.args.offset c.requires (omega (arith, c.count_ended-place.ensures.count, c.if-place-runs.true))

pub returns-clause-ends : goal.returns-clause-ends
returns-clause-ends c =
    let default : Run = record { first = 0; last = 0; state = Available; count = 0 } in
    ends_from c.args.runs.now c.args.offset c.count_ended-place.result default (sym c.count_ended-place.ensures.count) (omega arith)

pub returns-clause-order : goal.returns-clause-order
returns-clause-order c =
    let default : Run = record { first = 0; last = 0; state = Available; count = 0 } in
    in_order c.args.runs.now c.count_ended-place.result default c.requires (omega arith)

pub returns-clause-some : goal.returns-clause-some
returns-clause-some c =
    let default : Run = record { first = 0; last = 0; state = Available; count = 0 } in
    row_from c.args.runs.now c.args.offset c.count_ended-place.result default c.requires (sym c.count_ended-place.ensures.count) (omega arith)
