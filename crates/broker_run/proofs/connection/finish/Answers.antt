use Rattle.std.proofs.Common.{rules, ◌≡◌, Some, inr, subst, sym}
use Rattle.conn_core.specs.declared.next.Next.TheVariants.{Ask}
use Rattle.conn_core.specs.Turning.{awaited_part, turn}
use Rattle.broker_run.specs.Serving.{Asked, Stopped}
use Rattle.broker_run.proofs.Ending.{HasClosed, closed_answered, closed_stays, closed_wishes_nothing}
use Rattle.broker_run.proofs.Runs.{halted_so, quiet_asked, quiet_none, quiet_then, quiet_turned}
use Rattle.broker_run.proofs.Hosted.{part_hosted, quiet_hosted}
use Rattle.broker_locks.proofs.Places.{stay_none, stay_on}
use Rattle.broker_run.proofs.connection.finish.Goals as goal

pub loop-init : goal.loop-init
loop-init g c = record {
  closed = c.requires.closing;
  stay = stay_none c.args.shared.now c.args.passes.now c.requires.ready.of;
  quiet = quiet_none c.args.conf.now g.D.Disk.seen c.args.shared.now _ _ _;
}

pub loop-preserved : goal.loop-preserved
loop-preserved g c =
    let is : c.next_part.new.self ≡ (turn c.args.conf.now c.loop.conn).conn = search rules in
    let i = c.loop.invariant in
    record {
      closed = subst HasClosed (sym is) (closed_stays c.args.conf.now c.loop.conn i.closed);
      stay = i.stay;
      quiet = quiet_then c.args.conf.now g.D.Disk.seen c.args.shared.now _ _ _ _ _ _ _ _ _ i.quiet
          (quiet_turned c.args.conf.now g.D.Disk.seen c.args.shared.now _ _ _ _ is);
    }

pub loop-preserved-in_default : goal.loop-preserved-in_default
loop-preserved-in_default g c =
    let is : c.next_part.new.self ≡ (turn c.args.conf.now c.loop.conn).conn = search rules in
    let awaits : awaited_part c.next_part.new.self ≡ Some c.in-Ok-Ask.part = search rules in
    let a : Asked c.args.conf.now g.D.Disk.seen c.args.shared.now c.in-Ok-Ask.part c.next_part.new.self c.ask.new.conn c.loop.passes c.ask.new.passes (g.C.Clock.told c.loop.clock) (g.C.Clock.told c.ask.new.clock) = search rules in
    let i = c.loop.invariant in
    let k : HasClosed c.next_part.new.self = subst HasClosed (sym is) (closed_stays c.args.conf.now c.loop.conn i.closed) in
    record {
      closed = subst HasClosed (sym a.conn) (closed_answered a.answer c.next_part.new.self k);
      stay = stay_on c.args.shared.now _ _ _ i.stay c.ask.ensures.stay;
      quiet = quiet_then c.args.conf.now g.D.Disk.seen c.args.shared.now _ _ _ _ _ _ _ _ _ i.quiet
          (quiet_then c.args.conf.now g.D.Disk.seen c.args.shared.now _ _ _ _ _ _ _ _ _ (quiet_turned c.args.conf.now g.D.Disk.seen c.args.shared.now _ _ _ _ is)
          (quiet_asked c.args.conf.now g.D.Disk.seen c.args.shared.now c.in-Ok-Ask.part _ _ _ _ _ _ awaits (closed_wishes_nothing c.next_part.new.self k) a));
    }

pub returns-in-Err-ask-clause-stay : goal.returns-in-Err-ask-clause-stay
returns-in-Err-ask-clause-stay g c = stay_on c.args.shared.now _ _ _ c.loop.invariant.stay c.ask.ensures.stay

pub returns-in-Err-ask-clause-err : goal.returns-in-Err-ask-clause-err
returns-in-Err-ask-clause-err g c =
    let is : c.next_part.new.self ≡ (turn c.args.conf.now c.loop.conn).conn = search rules in
    let awaits : awaited_part c.next_part.new.self ≡ Some c.in-Ok-Ask.part = search rules in
    let s : Stopped c.args.conf.now g.D.Disk.seen c.args.shared.now c.in-Ok-Ask.part c.next_part.new.self c.ask.new.conn c.loop.passes c.ask.new.passes (g.C.Clock.told c.loop.clock) (g.C.Clock.told c.ask.new.clock) = search rules in
    record {
      at = c.next_part.new.self;
      mid = c.loop.passes;
      until = g.C.Clock.told c.loop.clock;
      quiet = quiet_then c.args.conf.now g.D.Disk.seen c.args.shared.now _ _ _ _ _ _ _ _ _ c.loop.invariant.quiet
          (quiet_turned c.args.conf.now g.D.Disk.seen c.args.shared.now _ _ _ _ is);
      last = inr (
        c.in-Ok-Ask.part,
        awaits,
        halted_so c.args.conf.now g.D.Disk.seen c.args.shared.now c.in-Ok-Ask.part _ _ _ _ _ _
            (closed_wishes_nothing c.next_part.new.self (subst HasClosed (sym is) (closed_stays c.args.conf.now c.loop.conn c.loop.invariant.closed))) s,
      );
    }

pub ask-requires : goal.ask-requires
ask-requires g c =
    let awaits : awaited_part c.next_part.new.self ≡ Some c.in-Ok-Ask.part = search rules in
    let tells : Ask c.in-Ok-Ask.part ≡ (turn c.args.conf.now c.loop.conn).next = search rules in
    let r = c.requires.ready in
    let i = c.loop.invariant in
    record {
      of = i.stay.of;
      asked = awaits;
      hosted = part_hosted c.args.conf.now c.args.shared.now c.loop.conn c.in-Ok-Ask.part r.hosts
          (quiet_hosted c.args.conf.now g.D.Disk.seen c.args.shared.now _ _ _ _ _ _ i.quiet r.hosted) tells;
    }
