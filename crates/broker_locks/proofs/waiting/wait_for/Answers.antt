use Rattle.std.proofs.Common.{◌≡◌, ◌≢◌, ℕ, List, Some, None, subst}
use Rattle.fetch_wait.specs.declared.wait.WaitEnd.TheVariants.{Ready, TimedOut, NoMemory}
use Rattle.share_model.specs.declared.offer.Offer.TheVariants.{Nothing}
use Rattle.broker_locks.specs.Waiting.{LooksThrough}
use Rattle.broker_locks.proofs.Places.{stay_on}
use Rattle.broker_locks.proofs.Waits.{found_at_once, looked_in_vain, stopped, waited_for}
use Rattle.broker_locks.proofs.waiting.wait_for.Goals as goal

pub returns-in_default : goal.returns-in_default
returns-in_default g c =
    let some : c.first_offer.result ≢ Nothing = c.in_default.not-Nothing in
    record {
      stay = c.first_offer.ensures.stay;
      ok = found_at_once g.D.Disk.seen c.args.shared.now c.args.wish.now c.first_offer.result _ _ _ _ some
          (subst (λ (l : List ℕ). LooksThrough g.D.Disk.seen c.args.shared.now c.args.wish.now.group l c.first_offer.result c.args.passes.now c.first_offer.new.passes)
          c.as_slice.ensures c.first_offer.ensures.looks);
      err = tt;
    }

pub returns-in-Some-Ready-clause-stay : goal.returns-in-Some-Ready-clause-stay
returns-in-Some-Ready-clause-stay g c = stay_on c.args.shared.now _ _ _ c.first_offer.ensures.stay c.wait_long.ensures.stay

pub returns-in-Some-Ready-clause-ok : goal.returns-in-Some-Ready-clause-ok
returns-in-Some-Ready-clause-ok g c =
    let is : c.wait_long.result ≡ Some c.in-Some-Ready.field-0 = c.in-Some-Ready.is in
    let ready : c.in-Some-Ready.field-0 ≡ Ready c.in-Some-Ready.field-0-0 c.in-Some-Ready.field-0-1 = c.in-Some-Ready.field-0-is in
    let other : c.wait_long.result ≢ Some NoMemory = λ bad. cc in
    waited_for g.D.Disk.seen c.args.shared.now c.args.wish.now (g.K.Link.left c.args.link.now) c.now_ms-now.result _ _ _ _ _ _
    (looked_in_vain g.D.Disk.seen c.args.shared.now c.args.wish.now _ _ _ _ c.as_slice.ensures c.in-Nothing.is c.first_offer.ensures.looks)
    c.now_ms-now.ensures.told c.wait_long.result other c.wait_long.ensures.waits

pub returns-in-Some-TimedOut-clause-stay : goal.returns-in-Some-TimedOut-clause-stay
returns-in-Some-TimedOut-clause-stay g c = stay_on c.args.shared.now _ _ _ c.first_offer.ensures.stay c.wait_long.ensures.stay

pub returns-in-Some-TimedOut-clause-ok : goal.returns-in-Some-TimedOut-clause-ok
returns-in-Some-TimedOut-clause-ok g c =
    let is : c.wait_long.result ≡ Some c.in-Some-TimedOut.field-0 = c.in-Some-TimedOut.is in
    let late : c.in-Some-TimedOut.field-0 ≡ TimedOut c.in-Some-TimedOut.field-0-0 = c.in-Some-TimedOut.field-0-is in
    let other : c.wait_long.result ≢ Some NoMemory = λ bad. cc in
    waited_for g.D.Disk.seen c.args.shared.now c.args.wish.now (g.K.Link.left c.args.link.now) c.now_ms-now.result _ _ _ _ _ _
    (looked_in_vain g.D.Disk.seen c.args.shared.now c.args.wish.now _ _ _ _ c.as_slice.ensures c.in-Nothing.is c.first_offer.ensures.looks)
    c.now_ms-now.ensures.told c.wait_long.result other c.wait_long.ensures.waits

pub returns-in-None-clause-stay : goal.returns-in-None-clause-stay
returns-in-None-clause-stay g c = stay_on c.args.shared.now _ _ _ c.first_offer.ensures.stay c.wait_long.ensures.stay

pub returns-in-None-clause-ok : goal.returns-in-None-clause-ok
returns-in-None-clause-ok g c =
    let is : c.wait_long.result ≡ None = c.in-None.is in
    let other : c.wait_long.result ≢ Some NoMemory = λ bad. cc in
    waited_for g.D.Disk.seen c.args.shared.now c.args.wish.now (g.K.Link.left c.args.link.now) c.now_ms-now.result _ _ _ _ _ _
    (looked_in_vain g.D.Disk.seen c.args.shared.now c.args.wish.now _ _ _ _ c.as_slice.ensures c.in-Nothing.is c.first_offer.ensures.looks)
    c.now_ms-now.ensures.told c.wait_long.result other c.wait_long.ensures.waits

pub returns-in-Some-NoMemory-clause-stay : goal.returns-in-Some-NoMemory-clause-stay
returns-in-Some-NoMemory-clause-stay g c = stay_on c.args.shared.now _ _ _ c.first_offer.ensures.stay c.wait_long.ensures.stay

pub returns-in-Some-NoMemory-clause-err : goal.returns-in-Some-NoMemory-clause-err
returns-in-Some-NoMemory-clause-err g c =
    stopped g.D.Disk.seen c.args.shared.now c.args.wish.now (g.K.Link.left c.args.link.now) c.now_ms-now.result _ _ _ _ _ _
    (looked_in_vain g.D.Disk.seen c.args.shared.now c.args.wish.now _ _ _ _ c.as_slice.ensures c.in-Nothing.is c.first_offer.ensures.looks)
    c.now_ms-now.ensures.told c.wait_long.result c.wait_long.ensures.waits
