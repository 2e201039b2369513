use Rattle.std.proofs.Common.{◌<◌, subst, sym}
use Rattle.tape_merge.proofs.Running.{counted, keeps_first, keeps_more, leaves_less, left_of, stops}
use Rattle.tape_merge.proofs.run.go_on.Goals as goal

pub loop-goes-init : goal.loop-goes-init
loop-goes-init c =
    keeps_first c.args.tapes.now c.args.links.now c.args.conf.now.topics c.args.counts.now c.in_ok-ready.ready.keys c.args.events.now.items c.requires.first c.in_ok-ready.ensures

pub take_next-requires : goal.take_next-requires
take_next-requires c = record { apart = c.requires.apart; ready = c.loop-goes.invariant.is_ready }

pub advance-requires : goal.advance-requires
advance-requires c =
    counted c.args.tapes.now c.args.links.now c.loop-goes.counts c.in-Some.goes c.loop-goes.invariant.sized c.in-Some.ensures.next.can c.in-Some.ensures.room

pub loop-goes-preserved : goal.loop-goes-preserved
loop-goes-preserved c =
    let next = c.in-Some.ensures.next in
    keeps_more c.args.tapes.now c.args.links.now c.args.conf.now.topics c.loop-goes.counts c.advance.new.counts c.loop-goes.ready.keys c.take_next.new.ready.keys
    c.look_behind.new.ready.keys c.args.events.now.items c.loop-goes.events.items c.tell_move.new.events.items c.in-Some.goes c.loop-goes.invariant next c.advance.ensures
    (c.in_ok-look_behind.ensures c.loop-goes.counts c.advance.ensures next.can c.in-Some.ensures.others) c.in_ok-tell_move.ensures

pub loop-goes-smaller : goal.loop-goes-smaller
loop-goes-smaller c =
    subst (λ x. left_of c.args.tapes.now c.args.links.now x < left_of c.args.tapes.now c.args.links.now c.loop-goes.counts) (sym c.advance.ensures)
    (leaves_less c.args.tapes.now c.args.links.now c.loop-goes.counts c.in-Some.goes c.loop-goes.invariant.sized c.in-Some.ensures.next.can)

pub returns-clause-goes : goal.returns-clause-goes
returns-clause-goes c = (c.loop-goes.invariant.moves, c.loop-goes.invariant.go, c.loop-goes.invariant.tells)

pub returns-clause-stuck : goal.returns-clause-stuck
returns-clause-stuck c = λ matched.
    stops c.args.tapes.now c.args.links.now c.args.conf.now.topics c.loop-goes.counts c.loop-goes.ready.keys c.args.events.now.items c.loop-goes.events.items
    c.loop-goes.invariant c.in_default.ensures.none matched
