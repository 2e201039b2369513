use Rattle.std.proofs.Common.{rules, arith}
use Rattle.broker_run.specs.declared.connection.Turned.TheVariants.{Closes}
use Rattle.broker_run.specs.Serving.{Breaks, GoesOn, HasTurnCause, Replied, Talks, scene}
use Rattle.broker_run.proofs.Runs.{breaks_then, goes_none, goes_on, talks_short, talks_then, then_replied}
use Rattle.broker_run.proofs.Hosted.{cause_then, goes_hosted}
use Rattle.broker_locks.proofs.Places.{stay_none, stay_on}
use Rattle.broker_run.proofs.connection.talk.Goals as goal

pub loop-init : goal.loop-init
loop-init g c = record {
  stay = stay_none c.args.shared.now c.args.passes.now c.requires.ready.of;
  goes = goes_none c.args.conf.now g.D.Disk.seen c.args.shared.now _;
  later = omega arith;
}

pub returns-in-Err-clause-ok : goal.returns-in-Err-clause-ok
returns-in-Err-clause-ok g c =
    let i = c.loop.invariant in
    talks_short c.args.conf.now g.D.Disk.seen c.args.shared.now _ _ _ _ _ _ _ _ _ _ i.goes (c.in-Err.ensures.err c.args.conf.now) c.reply.ensures.same.0 c.end.ensures

pub loop-preserved : goal.loop-preserved
loop-preserved g c =
    let i = c.loop.invariant in
    let r : Replied c.args.conf.now c.loop.conn c.reply.new.conn (g.K.Link.held c.loop.link) (g.K.Link.held c.reply.new.link) = c.in_default.ensures.ok.0 c.args.conf.now in
    let q : GoesOn c.args.conf.now g.D.Disk.seen c.args.shared.now
    (scene c.reply.new.conn c.loop.passes (g.K.Link.left c.reply.new.link) (g.K.Link.held c.reply.new.link) (g.C.Clock.told c.loop.clock))
    (scene c.turn.new.conn c.turn.new.passes (g.K.Link.left c.turn.new.link) (g.K.Link.held c.turn.new.link) (g.C.Clock.told c.turn.new.clock)) = search rules in
    record {
      stay = stay_on c.args.shared.now _ _ _ i.stay c.turn.ensures.stay;
      goes = goes_on c.args.conf.now g.D.Disk.seen c.args.shared.now _ _ _
          (then_replied c.args.conf.now g.D.Disk.seen c.args.shared.now _ _ _ _ _ _ _ _ _ i.goes r c.reply.ensures.same.0) q;
      later = omega (arith, i.later, c.reply.ensures.cause.later, c.turn.ensures.later);
    }

pub returns-in-Ok-Closes-clause-stay : goal.returns-in-Ok-Closes-clause-stay
returns-in-Ok-Closes-clause-stay g c = stay_on c.args.shared.now _ _ _ c.loop.invariant.stay c.turn.ensures.stay

pub returns-in-Ok-Closes-clause-ok : goal.returns-in-Ok-Closes-clause-ok
returns-in-Ok-Closes-clause-ok g c =
    let i = c.loop.invariant in
    let r : Replied c.args.conf.now c.loop.conn c.reply.new.conn (g.K.Link.held c.loop.link) (g.K.Link.held c.reply.new.link) = c.in_default.ensures.ok.0 c.args.conf.now in
    let q : Talks c.args.conf.now g.D.Disk.seen c.args.shared.now c.in-Ok-Closes.ended
    (scene c.reply.new.conn c.loop.passes (g.K.Link.left c.reply.new.link) (g.K.Link.held c.reply.new.link) (g.C.Clock.told c.loop.clock))
    (scene c.turn.new.conn c.turn.new.passes (g.K.Link.left c.turn.new.link) (g.K.Link.held c.turn.new.link) (g.C.Clock.told c.turn.new.clock)) = search rules in
    talks_then c.args.conf.now g.D.Disk.seen c.args.shared.now c.in-Ok-Closes.ended _ _ _
    (then_replied c.args.conf.now g.D.Disk.seen c.args.shared.now _ _ _ _ _ _ _ _ _ i.goes r c.reply.ensures.same.0) q

pub returns-in-Err-turn-clause-stay : goal.returns-in-Err-turn-clause-stay
returns-in-Err-turn-clause-stay g c = stay_on c.args.shared.now _ _ _ c.loop.invariant.stay c.turn.ensures.stay

pub returns-in-Err-turn-clause-err : goal.returns-in-Err-turn-clause-err
returns-in-Err-turn-clause-err g c =
    let i = c.loop.invariant in
    let r : Replied c.args.conf.now c.loop.conn c.reply.new.conn (g.K.Link.held c.loop.link) (g.K.Link.held c.reply.new.link) = c.in_default.ensures.ok.0 c.args.conf.now in
    let q : Breaks c.args.conf.now g.D.Disk.seen c.args.shared.now
    (scene c.reply.new.conn c.loop.passes (g.K.Link.left c.reply.new.link) (g.K.Link.held c.reply.new.link) (g.C.Clock.told c.loop.clock))
    (scene c.turn.new.conn c.turn.new.passes (g.K.Link.left c.turn.new.link) (g.K.Link.held c.turn.new.link) (g.C.Clock.told c.turn.new.clock)) = search rules in
    breaks_then c.args.conf.now g.D.Disk.seen c.args.shared.now _ _ _
    (then_replied c.args.conf.now g.D.Disk.seen c.args.shared.now _ _ _ _ _ _ _ _ _ i.goes r c.reply.ensures.same.0) q

pub turn-requires : goal.turn-requires
turn-requires g c =
    let i = c.loop.invariant in
    let r : Replied c.args.conf.now c.loop.conn c.reply.new.conn (g.K.Link.held c.loop.link) (g.K.Link.held c.reply.new.link) = c.in_default.ensures.ok.0 c.args.conf.now in
    record {
      ready = record {
        of = i.stay.of;
        hosts = c.requires.ready.hosts;
        hosted = goes_hosted c.args.conf.now g.D.Disk.seen c.args.shared.now _ _
            (then_replied c.args.conf.now g.D.Disk.seen c.args.shared.now _ _ _ _ _ _ _ _ _ i.goes r c.reply.ensures.same.0) c.requires.ready.hosted;
      };
      answered = c.in_default.ensures.ok.1;
    }

pub returns-in-Ok-Closes-clause-cause : goal.returns-in-Ok-Closes-clause-cause
returns-in-Ok-Closes-clause-cause g c =
    let k : HasTurnCause (Closes c.in-Ok-Closes.ended) (g.K.Link.ended c.turn.new.link) (g.K.Link.left c.turn.new.link) (g.K.Link.faults c.reply.new.link) (g.K.Link.faults c.turn.new.link) = search rules in
    let later = c.loop.invariant.later in
    let more = c.reply.ensures.cause.later in
    cause_then c.in-Ok-Closes.ended _ _ (g.K.Link.faults c.args.link.now) _ _ (omega (arith, later, more)) k
