use Rattle.std.proofs.Common.{arith, sym}
use Rattle.std.proofs.lemmas.Bool.{eqb-false, eqb-true}
use Rattle.offset_runs.proofs.Shifts.{cut_some, cut_none}
use Rattle.offset_runs.proofs.change.cut_front.Goals as goal

pub returns-then-not-is_empty-clause-runs : goal.returns-then-not-is_empty-clause-runs
returns-then-not-is_empty-clause-runs c =
    cut_some c.args.runs.now.items c.deref.result.now c.remove_between.new.runs.items c.args.offset c.count_ended-gone.result c.max.result c.index_mut.result.now c.index.result.now
    c.deref.ensures.value c.count_ended-gone.ensures.count c.remove_between.ensures.runs c.index.ensures c.index_mut.ensures.value c.max.ensures
    (λ none. eqb-false _ 0 (sym c.if-not-is_empty.ensures) (omega (arith, none)))

pub returns-else-not-is_empty-clause-runs : goal.returns-else-not-is_empty-clause-runs
returns-else-not-is_empty-clause-runs c =
    cut_none c.args.runs.now.items c.deref.result.now c.remove_between.new.runs.items c.args.offset c.count_ended-gone.result
    c.deref.ensures.value c.count_ended-gone.ensures.count c.remove_between.ensures.runs
    (omega (arith, eqb-true _ 0 (sym c.if-not-is_empty.ensures)))
