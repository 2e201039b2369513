use Rattle.tape_merge.proofs.Goings.{free_goes, not_asked, not_due, not_there, not_tagged, tagged_goes}
use Rattle.tape_merge.proofs.moves.step_move.Goals as goal

pub returns-in_default-clause-none : goal.returns-in_default-clause-none
returns-in_default-clause-none c = not_there c.args.tapes.now c.args.links.now c.args.counts.now c.args.link c.in_default.ensures.is

pub returns-in_default-shard-clause-some : goal.returns-in_default-shard-clause-some
returns-in_default-shard-clause-some c =
    free_goes c.args.tapes.now c.args.links.now c.args.counts.now c.args.link c.in-Some.step.now c.in-Some.ensures.is c.in_default-shard.is

pub returns-in_default-tape_of-clause-none : goal.returns-in_default-tape_of-clause-none
returns-in_default-tape_of-clause-none c =
    not_asked c.args.tapes.now c.args.links.now c.args.counts.now c.args.link c.in-Some.step.now c.in-Some.ensures.is c.in-Some-shard.shard c.in-Some-shard.is
    c.in_default-tape_of.ensures.none

pub returns-in_default-next_tag-clause-none : goal.returns-in_default-next_tag-clause-none
returns-in_default-next_tag-clause-none c =
    not_tagged c.args.tapes.now c.args.links.now c.args.counts.now c.args.link c.in-Some.step.now c.in-Some.ensures.is c.in-Some-shard.shard c.in-Some-shard.is
    c.requires c.in-Some-tape_of.tape c.in-Some-tape_of.ensures.some c.in_default-next_tag.ensures.is

pub returns-then-not-named-clause-none : goal.returns-then-not-named-clause-none
returns-then-not-named-clause-none c =
    not_due c.args.tapes.now c.args.links.now c.args.counts.now c.args.link c.in-Some.step.now c.in-Some.ensures.is c.in-Some-shard.shard c.in-Some-shard.is
    c.requires c.in-Some-tape_of.tape c.in-Some-tape_of.ensures.some c.in-Some-next_tag.tag.now c.in-Some-next_tag.ensures.is
    c.is_tag_of-named.result c.gone-step.result c.is_tag_of-named.ensures c.gone-step.ensures c.if-not-named.true

pub returns-clause-some : goal.returns-clause-some
returns-clause-some c =
    tagged_goes c.args.tapes.now c.args.links.now c.args.counts.now c.args.link c.in-Some.step.now c.in-Some.ensures.is c.in-Some-shard.shard c.in-Some-shard.is
    c.in-Some-tape_of.tape c.in-Some-tape_of.ensures.some c.in-Some-next_tag.tag.now c.in-Some-next_tag.ensures.is
    c.is_tag_of-named.result c.gone-step.result c.is_tag_of-named.ensures c.gone-step.ensures c.if-not-named.false
