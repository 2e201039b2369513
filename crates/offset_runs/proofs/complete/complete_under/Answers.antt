use Rattle.std.proofs.Common.{◌≡◌, ◌+◌, ◌∙◌, ap, arith, max, ℕ}
use Rattle.offset_runs.specs.Complete.{complete_between, complete_under}
use Rattle.offset_runs.proofs.Tallies.{covering_ends, covering_fits, covering_low}
use Rattle.offset_runs.proofs.complete.complete_under.Goals as goal

pub overflow_add-count : goal.overflow_add-count
overflow_add-count c =
    let run = c.in-Some.run'.now in
    let low = covering_low c.loop-run.count c.args.under.now c.loop-run.rest.now c.in-Some.others.now c.args.over.now run c.args.start
    c.requires.under c.requires.low c.requires.over c.requires.low_over c.loop-run.invariant c.in-Some.ensures.cases.0 in
    let more : c.complete_between-count.result ≡ complete_between c.args.under.now (max run.first c.args.start) (run.last + 1) =
    c.complete_between-count.ensures.count ∙ ap (λ (k : ℕ). complete_between c.args.under.now k (run.last + 1)) c.max.ensures in
    omega (arith, low.1, more)

pub returns-clause-fits : goal.returns-clause-fits
returns-clause-fits c =
    let is : c.loop-run.count ≡ complete_under c.args.under.now c.args.over.now c.args.start =
    covering_ends c.loop-run.count c.args.under.now c.loop-run.rest.now c.args.over.now c.args.start c.loop-run.invariant c.in_default.ensures.cases in
    let all = covering_fits c.args.under.now c.args.over.now c.args.start c.requires.under c.requires.low c.requires.over c.requires.low_over in
    omega (arith, is, all)
