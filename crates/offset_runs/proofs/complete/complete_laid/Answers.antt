use Rattle.std.proofs.Common.{arith}
use Rattle.offset_runs.proofs.Tallies.{laid_room}
use Rattle.offset_runs.proofs.complete.complete_laid.Goals as goal

pub overflow_add-gone : goal.overflow_add-gone
overflow_add-gone c =
    let r = laid_room c.args.under.now c.args.over.now c.args.start c.args.complete c.requires.under c.requires.low c.requires.over c.requires.low_over c.requires.now in
    omega (arith, r.0, r.2, c.complete_between.ensures.count, c.complete_under.ensures.count)

pub overflow_sub-result : goal.overflow_sub-result
overflow_sub-result c =
    let r = laid_room c.args.under.now c.args.over.now c.args.start c.args.complete c.requires.under c.requires.low c.requires.over c.requires.low_over c.requires.now in
    omega (arith, r.0, c.complete_between.ensures.count, c.complete_under.ensures.count)

pub overflow_add-result : goal.overflow_add-result
overflow_add-result c =
    let r = laid_room c.args.under.now c.args.over.now c.args.start c.args.complete c.requires.under c.requires.low c.requires.over c.requires.low_over c.requires.now in
    omega (arith, r.0, r.1, c.complete_between.ensures.count, c.complete_under.ensures.count, c.complete_between-2.ensures.count)

pub returns : goal.returns
returns c =
    let r = laid_room c.args.under.now c.args.over.now c.args.start c.args.complete c.requires.under c.requires.low c.requires.over c.requires.low_over c.requires.now in
    omega (arith, r.0, c.complete_between.ensures.count, c.complete_under.ensures.count, c.complete_between-2.ensures.count)
