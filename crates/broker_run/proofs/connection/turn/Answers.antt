use Rattle.std.proofs.Common.{rules, ◌≡◌, Some}
use Rattle.conn_core.specs.declared.next.Next.TheVariants.{Ask, Closed, Gone, Idle, Ready}
use Rattle.conn_core.specs.Turning.{Waits, awaited_part, turn}
use Rattle.broker_run.specs.Serving.{Interrupted, Reached}
use Rattle.broker_run.proofs.Runs.{asked, breaks_asked, breaks_fed, breaks_here, closed_by, err_so, if_ok_so, received, turned}
use Rattle.broker_run.proofs.Hosted.{part_hosted}
use Rattle.broker_locks.proofs.Places.{stay_none}
use Rattle.broker_run.proofs.connection.turn.Goals as goal

pub returns-in-Ok-Idle-clause-stay : goal.returns-in-Ok-Idle-clause-stay
returns-in-Ok-Idle-clause-stay g c = stay_none c.args.shared.now c.args.passes.now c.requires.ready.of

pub returns-in-Ok-Idle-clause-ok : goal.returns-in-Ok-Idle-clause-ok
returns-in-Ok-Idle-clause-ok g c =
    let is : c.next_part.new.self ≡ (turn c.args.conf.now c.args.conn.now).conn = search rules in
    let tells : Idle ≡ (turn c.args.conf.now c.args.conn.now).next = search rules in
    let w : Waits c.args.conn.now = search rules in
    let e = c.receive.ensures in
    rw e.same (if_ok_so _ _ c.receive.result (λ turned r. received c.args.conf.now g.D.Disk.seen c.args.shared.now turned _ _ _ c.args.passes.now _ _ _ _ tells is
    (record { waits = w; answered = c.requires.answered }) r) e.ok)

pub returns-in-Ok-Idle-clause-err : goal.returns-in-Ok-Idle-clause-err
returns-in-Ok-Idle-clause-err g c =
    let is : c.next_part.new.self ≡ (turn c.args.conf.now c.args.conn.now).conn = search rules in
    let tells : Idle ≡ (turn c.args.conf.now c.args.conn.now).next = search rules in
    let w : Waits c.args.conn.now = search rules in
    let e = c.receive.ensures in
    rw e.same (err_so c.receive.result (λ r. breaks_fed c.args.conf.now g.D.Disk.seen c.args.shared.now _ _ _ c.args.passes.now _ _ _ _ tells is
    (record { waits = w; answered = c.requires.answered }) r.1) e.err)

pub do_next-requires : goal.do_next-requires
do_next-requires g c =
    let awaits : awaited_part c.next_part.new.self ≡ Some c.in-Ok-Ask.part = search rules in
    let tells : Ask c.in-Ok-Ask.part ≡ (turn c.args.conf.now c.args.conn.now).next = search rules in
    let r = c.requires.ready in
    record { of = r.of; asked = awaits; hosted = part_hosted c.args.conf.now c.args.shared.now c.args.conn.now c.in-Ok-Ask.part r.hosts r.hosted tells }

pub returns-in-Ok-clause-ok : goal.returns-in-Ok-clause-ok
returns-in-Ok-clause-ok g c =
    let tells : Ask c.in-Ok-Ask.part ≡ (turn c.args.conf.now c.args.conn.now).next = search rules in
    let is : c.next_part.new.self ≡ (turn c.args.conf.now c.args.conn.now).conn = search rules in
    let awaits : awaited_part c.next_part.new.self ≡ Some c.in-Ok-Ask.part = search rules in
    let a : Reached c.args.conf.now g.D.Disk.seen c.args.shared.now c.in-Ok-Ask.part (g.K.Link.left c.args.link.now) c.next_part.new.self c.do_next.new.conn c.args.passes.now c.do_next.new.passes
    (g.C.Clock.told c.args.clock.now) (g.C.Clock.told c.do_next.new.clock) = search rules in
    asked c.args.conf.now g.D.Disk.seen c.args.shared.now c.in-Ok-Ask.part _ _ _ _ _ _ _ _ _ tells is awaits a

pub returns-in-Err-do_next-clause-err : goal.returns-in-Err-do_next-clause-err
returns-in-Err-do_next-clause-err g c =
    let tells : Ask c.in-Ok-Ask.part ≡ (turn c.args.conf.now c.args.conn.now).next = search rules in
    let is : c.next_part.new.self ≡ (turn c.args.conf.now c.args.conn.now).conn = search rules in
    let awaits : awaited_part c.next_part.new.self ≡ Some c.in-Ok-Ask.part = search rules in
    let a : Interrupted c.args.conf.now g.D.Disk.seen c.args.shared.now c.in-Ok-Ask.part c.next_part.new.self c.do_next.new.conn c.args.passes.now c.do_next.new.passes
    (g.C.Clock.told c.args.clock.now) (g.C.Clock.told c.do_next.new.clock) = search rules in
    breaks_asked c.args.conf.now g.D.Disk.seen c.args.shared.now c.in-Ok-Ask.part _ _ _ _ _ _ _ _ _ tells is awaits a

pub returns-in-Ok-Closed-clause-stay : goal.returns-in-Ok-Closed-clause-stay
returns-in-Ok-Closed-clause-stay g c = stay_none c.args.shared.now c.args.passes.now c.requires.ready.of

pub returns-in-Ok-Closed-clause-ok : goal.returns-in-Ok-Closed-clause-ok
returns-in-Ok-Closed-clause-ok g c =
    let is : c.next_part.new.self ≡ (turn c.args.conf.now c.args.conn.now).conn = search rules in
    let tells : Closed c.in-Ok-Closed.cause ≡ (turn c.args.conf.now c.args.conn.now).next = search rules in
    closed_by c.args.conf.now g.D.Disk.seen c.args.shared.now c.in-Ok-Closed.cause _ _ _ _ _ _ tells is c.requires.answered

pub returns-in-Ok-Ready-clause-stay : goal.returns-in-Ok-Ready-clause-stay
returns-in-Ok-Ready-clause-stay g c = stay_none c.args.shared.now c.args.passes.now c.requires.ready.of

pub returns-in-Ok-Ready-clause-ok : goal.returns-in-Ok-Ready-clause-ok
returns-in-Ok-Ready-clause-ok g c =
    let is : c.next_part.new.self ≡ (turn c.args.conf.now c.args.conn.now).conn = search rules in
    let tells : Ready ≡ (turn c.args.conf.now c.args.conn.now).next = search rules in
    turned c.args.conf.now g.D.Disk.seen c.args.shared.now Ready _ _ _ _ _ _ tt tells is

pub returns-in-Ok-Gone-clause-stay : goal.returns-in-Ok-Gone-clause-stay
returns-in-Ok-Gone-clause-stay g c = stay_none c.args.shared.now c.args.passes.now c.requires.ready.of

pub returns-in-Ok-Gone-clause-ok : goal.returns-in-Ok-Gone-clause-ok
returns-in-Ok-Gone-clause-ok g c =
    let is : c.next_part.new.self ≡ (turn c.args.conf.now c.args.conn.now).conn = search rules in
    let tells : Gone ≡ (turn c.args.conf.now c.args.conn.now).next = search rules in
    turned c.args.conf.now g.D.Disk.seen c.args.shared.now Gone _ _ _ _ _ _ tt tells is

pub returns-in-Err-clause-stay : goal.returns-in-Err-clause-stay
returns-in-Err-clause-stay g c = stay_none c.args.shared.now c.args.passes.now c.requires.ready.of

pub returns-in-Err-clause-err : goal.returns-in-Err-clause-err
returns-in-Err-clause-err g c =
    let is : c.next_part.new.self ≡ c.args.conn.now = search rules in
    rw is (breaks_here c.args.conf.now g.D.Disk.seen c.args.shared.now _)
