use Rattle.std.proofs.Common.{sym}
use Rattle.tape_merge.proofs.Waits.{asks_some, has_named, has_tape, left_there, waits}
use Rattle.tape_merge.proofs.tangle.waits_for.Goals as goal

pub returns-in_default-clause-some : goal.returns-in_default-clause-some
returns-in_default-clause-some c = absurd (left_there c.args.links.now c.args.counts.now c.args.link c.requires.left c.in_default.ensures.is)

pub returns-in_default-shard-clause-some : goal.returns-in_default-shard-clause-some
returns-in_default-shard-clause-some c =
    absurd (asks_some c.args.tapes.now c.args.links.now c.args.counts.now c.requires.matched c.requires.stuck c.args.link c.in-Some.step.now (sym c.in-Some.ensures.is)
    c.in_default-shard.is)

pub returns-in_default-tape_of-clause-some : goal.returns-in_default-tape_of-clause-some
returns-in_default-tape_of-clause-some c =
    absurd (has_tape c.args.tapes.now c.args.links.now c.args.counts.now c.requires.matched c.requires.stuck c.requires.apart c.args.link c.in-Some.step.now
    (sym c.in-Some.ensures.is) c.in-Some-shard.shard c.in-Some-shard.is c.in_default-tape_of.ensures.none)

pub returns-in_default-link_named-clause-some : goal.returns-in_default-link_named-clause-some
returns-in_default-link_named-clause-some c =
    absurd (has_named c.args.tapes.now c.args.links.now c.args.counts.now c.requires.matched c.requires.stuck c.requires.apart c.args.link c.in-Some.step.now
    (sym c.in-Some.ensures.is) c.in-Some-shard.shard c.in-Some-shard.is c.in-Some-tape_of.tape c.in-Some-tape_of.ensures.some c.in_default-link_named.ensures.none)

pub returns-clause-waits : goal.returns-clause-waits
returns-clause-waits c =
    let named = c.in-Some-link_named.ensures.some in
    waits c.args.tapes.now c.args.links.now c.args.counts.now c.requires.matched c.requires.stuck c.requires.apart c.args.link c.in-Some.step.now
    (sym c.in-Some.ensures.is) c.in-Some-shard.shard c.in-Some-shard.is c.in-Some-tape_of.tape c.in-Some-tape_of.ensures.some c.in-Some-link_named.other named.0 named.1
