use Rattle.std.proofs.Common.{◌≡◌, ◌^◌, arith}
use Rattle.offset_runs.specs.Complete.{complete_between}
use Rattle.offset_runs.proofs.Tallies.{between_fits, count_ends, count_low, count_stops}
use Rattle.offset_runs.proofs.complete.complete_front.Goals as goal

pub returns-then-run-to-clause-count : goal.returns-then-run-to-clause-count
returns-then-run-to-clause-count c =
    count_stops c.loop-run.count c.loop-run.rest.now c.in-Some.others.now c.args.runs.now c.in-Some.run'.now c.args.from c.args.to c.loop-run.invariant
    c.in-Some.ensures.cases.0 (omega (arith, c.if-run-to.true))

pub returns-then-run-to-clause-fits : goal.returns-then-run-to-clause-fits
returns-then-run-to-clause-fits c =
    let is : c.loop-run.count ≡ complete_between c.args.runs.now c.args.from c.args.to =
    count_stops c.loop-run.count c.loop-run.rest.now c.in-Some.others.now c.args.runs.now c.in-Some.run'.now c.args.from c.args.to c.loop-run.invariant
    c.in-Some.ensures.cases.0 (omega (arith, c.if-run-to.true)) in
    let all = between_fits c.args.runs.now c.args.from c.args.to (2 ^ 63) c.requires.canonical c.requires.low in
    omega (arith, is, all)

pub overflow_add-count : goal.overflow_add-count
overflow_add-count c =
    let low = count_low c.loop-run.count c.loop-run.rest.now c.in-Some.others.now c.args.runs.now c.in-Some.run'.now c.args.from c.args.to
    c.requires.canonical c.requires.low c.loop-run.invariant c.in-Some.ensures.cases.0 in
    omega (arith, low.1, c.complete_within-count.ensures)

pub returns-clause-fits : goal.returns-clause-fits
returns-clause-fits c =
    let is : c.loop-run.count ≡ complete_between c.args.runs.now c.args.from c.args.to =
    count_ends c.loop-run.count c.loop-run.rest.now c.args.runs.now c.args.from c.args.to c.loop-run.invariant c.in_default.ensures.cases in
    let all = between_fits c.args.runs.now c.args.from c.args.to (2 ^ 63) c.requires.canonical c.requires.low in
    omega (arith, is, all)
