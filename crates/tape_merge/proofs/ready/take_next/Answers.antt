use Rattle.std.proofs.lemmas.Bool.{false≢true}
use Rattle.std.proofs.lemmas.Option.{IfSome_then}
use Rattle.tape_merge.specs.declared.moves.Move.{Move}
use Rattle.tape_merge.specs.Moves.{CanGo}
use Rattle.tape_merge.proofs.Steadies.{alone_next, alone_others, are_others, if_none, is_next, not_none, nothing_goes, some_may}
use Rattle.tape_merge.proofs.ready.take_next.Goals as goal

pub returns-in-Some-clause-next : goal.returns-in-Some-clause-next
returns-in-Some-clause-next c =
    IfSome_then c.step_move.result c.step_move.ensures.some
    (λ m h. is_next c.args.tapes.now c.args.links.now c.args.counts.now c.in-Some.link m c.args.ready.now.keys c.pop_first.new.self.keys h c.requires.ready c.in-Some.ensures.least)

pub returns-in-Some-clause-others : goal.returns-in-Some-clause-others
returns-in-Some-clause-others c =
    IfSome_then c.step_move.result c.step_move.ensures.some
    (λ m h. are_others c.args.tapes.now c.args.links.now c.args.counts.now c.in-Some.link m c.args.ready.now.keys c.pop_first.new.self.keys h c.requires.ready
    c.in-Some.ensures.updates.0)

pub returns-in-Some-clause-none : goal.returns-in-Some-clause-none
returns-in-Some-clause-none c =
    not_none c.step_move.result ((goes : Move) → CanGo c.args.tapes.now c.args.links.now c.args.counts.now goes → ⊥) c.step_move.ensures.none
    (some_may c.args.tapes.now c.args.links.now c.args.counts.now c.args.ready.now.keys c.in-Some.link c.requires.ready c.in-Some.ensures.member)

pub returns-in-None-clause-next : goal.returns-in-None-clause-next
returns-in-None-clause-next c =
    IfSome_then c.alone_move.result c.alone_move.ensures.some
    (alone_next c.args.tapes.now c.args.links.now c.args.counts.now c.args.ready.now.keys c.requires.ready (λ lt. false≢true (c.in-None.ensures.variant.1 lt)))

pub returns-in-None-clause-others : goal.returns-in-None-clause-others
returns-in-None-clause-others c =
    IfSome_then c.alone_move.result c.alone_move.ensures.some
    (alone_others c.args.tapes.now c.args.links.now c.args.counts.now c.args.ready.now.keys c.pop_first.new.self.keys c.in-None.ensures.unchanged c.requires.ready
    (λ lt. false≢true (c.in-None.ensures.variant.1 lt)))

pub returns-in-None-clause-none : goal.returns-in-None-clause-none
returns-in-None-clause-none c =
    if_none c.alone_move.result c.alone_move.ensures.none
    (nothing_goes c.args.tapes.now c.args.links.now c.args.counts.now c.args.ready.now.keys c.requires.ready (λ lt. false≢true (c.in-None.ensures.variant.1 lt)))
