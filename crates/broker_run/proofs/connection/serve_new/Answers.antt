use Rattle.std.proofs.Common.{rules, ◌≢◌, true, false}
use Rattle.broker_run.specs.declared.connection.Ended.TheVariants.{NoMemory}
use Rattle.broker_run.specs.Serving.{Breaks, Releases, Talks, scene}
use Rattle.broker_run.proofs.Runs.{cut_after, cut_here, served}
use Rattle.broker_run.proofs.Ending.{talks_closed}
use Rattle.broker_run.proofs.Hosted.{new_hosted, talks_ends, talks_hosted}
use Rattle.broker_locks.proofs.Places.{stay_on}
use Rattle.broker_run.proofs.connection.serve_new.Goals as goal

pub returns-in_default-clause-served : goal.returns-in_default-clause-served
returns-in_default-clause-served g c =
    let b : Breaks c.args.conf.now g.D.Disk.seen c.args.shared.now
    (scene c.args.conn.now c.args.passes.now (g.K.Link.left c.args.link.now) (g.K.Link.held c.args.link.now) (g.C.Clock.told c.args.clock.now))
    (scene c.talk.new.conn c.talk.new.passes (g.K.Link.left c.talk.new.link) (g.K.Link.held c.talk.new.link) (g.C.Clock.told c.talk.new.clock)) = search rules in
    cut_here c.args.conf.now g.D.Disk.seen c.args.shared.now c.args.conn.now c.requires.new _ _ _ _ _ _ _ _ _ b

pub returns-in-Ok-finish-clause-stay : goal.returns-in-Ok-finish-clause-stay
returns-in-Ok-finish-clause-stay g c = stay_on c.args.shared.now _ _ _ c.talk.ensures.stay c.finish.ensures.stay

pub returns-in-Ok-finish-clause-served : goal.returns-in-Ok-finish-clause-served
returns-in-Ok-finish-clause-served g c =
    let a : Talks c.args.conf.now g.D.Disk.seen c.args.shared.now c.in-Ok.ended
    (scene c.args.conn.now c.args.passes.now (g.K.Link.left c.args.link.now) (g.K.Link.held c.args.link.now) (g.C.Clock.told c.args.clock.now))
    (scene c.talk.new.conn c.talk.new.passes (g.K.Link.left c.talk.new.link) (g.K.Link.held c.talk.new.link) (g.C.Clock.told c.talk.new.clock)) = search rules in
    let r : Releases c.args.conf.now g.D.Disk.seen c.args.shared.now true c.talk.new.conn c.finish.new.conn c.talk.new.passes c.finish.new.passes (g.C.Clock.told c.talk.new.clock) (g.C.Clock.told c.finish.new.clock) = search rules in
    let ne : c.in-Ok.ended ≢ NoMemory = talks_ends c.args.conf.now g.D.Disk.seen c.args.shared.now c.in-Ok.ended _ _ a in
    served c.args.conf.now g.D.Disk.seen c.args.shared.now c.args.conn.now c.requires.new c.in-Ok.ended _ _ _ _ _ _ _ _ _ _ _ _ ne a r

pub returns-in-Err-clause-stay : goal.returns-in-Err-clause-stay
returns-in-Err-clause-stay g c = stay_on c.args.shared.now _ _ _ c.talk.ensures.stay c.finish.ensures.stay

pub returns-in-Err-clause-served : goal.returns-in-Err-clause-served
returns-in-Err-clause-served g c =
    let a : Talks c.args.conf.now g.D.Disk.seen c.args.shared.now c.in-Ok.ended
    (scene c.args.conn.now c.args.passes.now (g.K.Link.left c.args.link.now) (g.K.Link.held c.args.link.now) (g.C.Clock.told c.args.clock.now))
    (scene c.talk.new.conn c.talk.new.passes (g.K.Link.left c.talk.new.link) (g.K.Link.held c.talk.new.link) (g.C.Clock.told c.talk.new.clock)) = search rules in
    let r : Releases c.args.conf.now g.D.Disk.seen c.args.shared.now false c.talk.new.conn c.finish.new.conn c.talk.new.passes c.finish.new.passes (g.C.Clock.told c.talk.new.clock) (g.C.Clock.told c.finish.new.clock) = search rules in
    cut_after c.args.conf.now g.D.Disk.seen c.args.shared.now c.args.conn.now c.requires.new c.in-Ok.ended _ _ _ _ _ _ _ _ _ _ _ _ a r

pub talk-requires : goal.talk-requires
talk-requires g c = record {
  ready = record { of = c.requires.of; hosts = c.requires.hosts; hosted = new_hosted c.args.conf.now c.args.conn.now c.requires.new };
}

pub finish-requires : goal.finish-requires
finish-requires g c =
    let a : Talks c.args.conf.now g.D.Disk.seen c.args.shared.now c.in-Ok.ended
    (scene c.args.conn.now c.args.passes.now (g.K.Link.left c.args.link.now) (g.K.Link.held c.args.link.now) (g.C.Clock.told c.args.clock.now))
    (scene c.talk.new.conn c.talk.new.passes (g.K.Link.left c.talk.new.link) (g.K.Link.held c.talk.new.link) (g.C.Clock.told c.talk.new.clock)) = search rules in
    record {
      ready = record {
        of = c.talk.ensures.stay.of;
        hosts = c.requires.hosts;
        hosted = talks_hosted c.args.conf.now g.D.Disk.seen c.args.shared.now c.in-Ok.ended _ _ a (new_hosted c.args.conf.now c.args.conn.now c.requires.new);
      };
      closing = talks_closed c.args.conf.now g.D.Disk.seen c.args.shared.now c.in-Ok.ended _ _ a;
    }
