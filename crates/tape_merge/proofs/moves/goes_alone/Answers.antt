use Rattle.tape_merge.proofs.Goings.{alone_if, alone_none}
use Rattle.tape_merge.proofs.moves.goes_alone.Goals as goal

pub returns-in_default-clause-alone : goal.returns-in_default-clause-alone
returns-in_default-clause-alone c = alone_none c.args.tapes.now c.args.counts.now c.args.tape c.in_default.ensures.is

pub returns-clause-alone : goal.returns-clause-alone
returns-clause-alone c = alone_if c.args.tapes.now c.args.counts.now c.args.tape c.in-Some.tag.now c.in-Some.ensures.is c.is_alone.result c.is_alone.ensures
