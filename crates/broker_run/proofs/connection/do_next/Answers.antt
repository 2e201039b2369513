use Rattle.std.proofs.Common.{◌≡◌, ◌∙◌, Option, Some, None, OnOk, OnErr, List, ℕ, rules, sym, subst}
use Rattle.share_calls.specs.declared.wish.WaitWish.{WaitWish}
use Rattle.conn_core.specs.Wishes.{conn_wish}
use Rattle.broker_locks.specs.Acting.{StayOf}
use Rattle.broker_locks.specs.Shared.{PassesParts}
use Rattle.broker_locks.specs.Waiting.{WaitsFor}
use Rattle.broker_run.specs.Serving.{Asked, Interrupted, Reached, Stopped}
use Rattle.broker_run.proofs.Runs.{err_so, halted_behind, halted_so, ok_so, reached_so, unwished}
use Rattle.broker_locks.proofs.Places.{stay_on}
use Rattle.broker_run.proofs.connection.do_next.Goals as goal
use Rattle.broker_run.proofs.connection.do_next.Goals.{in-Some+in-Ok, in_default}

pub returns-clause-stay : goal.returns-clause-stay
returns-clause-stay g c = elim c.match-wait_wish.branch [
  | in-Some+in-Ok w ↦ stay_on c.args.shared.now c.args.passes.now c.match-wait_wish.passes c.ask.new.passes
      (subst (λ (p : PassesParts g.row.D.Denot). StayOf c.args.shared.now c.args.passes.now p) (search rules) w.wait_for.ensures.stay) c.ask.ensures.stay
  | in_default w ↦ subst (λ (p : PassesParts g.row.D.Denot). StayOf c.args.shared.now p c.ask.new.passes) (search rules) c.ask.ensures.stay
]

pub returns-clause-ok : goal.returns-clause-ok
returns-clause-ok g c =
    let seen = g.D.Disk.seen in
    let told = g.C.Clock.told in
    let conn = c.args.conn.now in
    let left = g.K.Link.left c.args.link.now in
    elim c.match-wait_wish.branch [
      | in-Some+in-Ok w ↦
          let wished : conn_wish conn ≡ Some w.in-Some.wish.now = search rules in
          let waits : WaitsFor seen c.args.shared.now w.in-Some.wish.now left c.args.passes.now c.match-wait_wish.passes (told c.args.clock.now) (told c.match-wait_wish.clock) = search rules in
          ok_so c.ask.result (λ (a : Asked c.args.conf.now seen c.args.shared.now c.args.part conn c.ask.new.conn c.match-wait_wish.passes c.ask.new.passes (told c.match-wait_wish.clock) (told c.ask.new.clock)).
          reached_so c.args.conf.now seen c.args.shared.now c.args.part w.in-Some.wish.now left conn c.ask.new.conn c.args.passes.now c.match-wait_wish.passes c.ask.new.passes
          (told c.args.clock.now) (told c.match-wait_wish.clock) (told c.ask.new.clock) wished waits a) c.ask.ensures.ok
      | in_default w ↦
          let none : conn_wish conn ≡ None = search rules in
          let at : OnOk c.ask.result (Asked c.args.conf.now seen c.args.shared.now c.args.part conn c.ask.new.conn c.args.passes.now c.ask.new.passes (told c.args.clock.now) (told c.ask.new.clock)) = search rules in
          ok_so c.ask.result (λ (a : Asked c.args.conf.now seen c.args.shared.now c.args.part conn c.ask.new.conn c.args.passes.now c.ask.new.passes (told c.args.clock.now) (told c.ask.new.clock)).
          unwished c.args.conf.now seen c.args.shared.now c.args.part left conn c.ask.new.conn c.args.passes.now c.ask.new.passes (told c.args.clock.now) (told c.ask.new.clock) none a) at
    ]

pub returns-clause-err : goal.returns-clause-err
returns-clause-err g c =
    let seen = g.D.Disk.seen in
    let told = g.C.Clock.told in
    let conn = c.args.conn.now in
    let left = g.K.Link.left c.args.link.now in
    elim c.match-wait_wish.branch [
      | in-Some+in-Ok w ↦
          let wished : conn_wish conn ≡ Some w.in-Some.wish.now = search rules in
          let waits : WaitsFor seen c.args.shared.now w.in-Some.wish.now left c.args.passes.now c.match-wait_wish.passes (told c.args.clock.now) (told c.match-wait_wish.clock) = search rules in
          err_so c.ask.result (λ (a : Stopped c.args.conf.now seen c.args.shared.now c.args.part conn c.ask.new.conn c.match-wait_wish.passes c.ask.new.passes (told c.match-wait_wish.clock) (told c.ask.new.clock)).
          halted_behind c.args.conf.now seen c.args.shared.now c.args.part w.in-Some.wish.now left conn c.ask.new.conn c.args.passes.now c.match-wait_wish.passes c.ask.new.passes
          (told c.args.clock.now) (told c.match-wait_wish.clock) (told c.ask.new.clock) wished waits a) c.ask.ensures.err
      | in_default w ↦
          let none : conn_wish conn ≡ None = search rules in
          let at : OnErr c.ask.result (Stopped c.args.conf.now seen c.args.shared.now c.args.part conn c.ask.new.conn c.args.passes.now c.ask.new.passes (told c.args.clock.now) (told c.ask.new.clock)) = search rules in
          err_so c.ask.result (λ (a : Stopped c.args.conf.now seen c.args.shared.now c.args.part conn c.ask.new.conn c.args.passes.now c.ask.new.passes (told c.args.clock.now) (told c.ask.new.clock)).
          halted_so c.args.conf.now seen c.args.shared.now c.args.part conn c.ask.new.conn c.args.passes.now c.ask.new.passes (told c.args.clock.now) (told c.ask.new.clock) none a) at
    ]
