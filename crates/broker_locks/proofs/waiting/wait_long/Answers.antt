use Rattle.std.proofs.Common.{◌≡◌, ◌∙◌, ◌≤◌, ◌+◌, refl, sym, ap, subst, rules}
use Rattle.broker_locks.specs.Looking.{LookerParts, Sleeps}
use Rattle.broker_locks.specs.Shared.{PassesParts}
use Rattle.broker_locks.specs.Waiting.{WaitsLong}
use Rattle.broker_locks.proofs.Places.{stay_none}
use Rattle.broker_locks.proofs.Waits.{long_stay, slept}
use Rattle.broker_locks.proofs.waiting.wait_long.Goals as goal

pub returns-in_default-clause-stay : goal.returns-in_default-clause-stay
returns-in_default-clause-stay g c = stay_none c.args.shared.now c.args.passes.now c.requires.of

pub returns-clause-waits : goal.returns-clause-waits
returns-clause-waits g c =
    let Look : Type 0 = LookerParts g.row.D.Denot g.row.C.Denot in
    let left = g.K.Link.left c.args.link.now in
    let a : Look = c.new-wait.result.watch in
    let b : Look = record { shared = c.watch.inside.shared.now; wish = c.watch.inside.wish.now; parts = c.watch.inside.parts.items; clock = c.watch.inside.clock } in
    let is = c.new-wait.ensures.watch in
    let old : PassesParts g.row.D.Denot = record { parts = c.passes.inside.parts.items; members = c.passes.inside.members; foreign = c.passes.inside.foreign } in
    let new : PassesParts g.row.D.Denot = record { parts = c.watch.inside.parts.items; members = c.passes.inside.members; foreign = c.passes.inside.foreign } in
    let from : a.parts ≡ old.parts = ap (λ (l : Look). l.parts) is ∙ ap (λ v. v.items) c.replace-parts.ensures.value in
    let clock : g.C.Clock.told a.clock ≡ g.C.Clock.told c.args.clock.now =
    ap (λ (l : Look). g.C.Clock.told l.clock) is ∙ ap g.C.Clock.told c.replace-own.ensures.value in
    let until : c.args.since + c.args.wish.now.wait_ms ≤ c.new-wait.result.deadline = search rules in
    let w = slept g.D.Disk.seen g.C.Clock.told c.args.shared.now c.args.wish.now left c.args.since c.new-wait.result.deadline c.sleep-end.result a b old new
    (ap (λ (l : Look). l.shared) is, ap (λ (l : Look). l.wish) is) until from refl refl refl
    (subst (λ (x : Look). Sleeps g.D.Disk.seen g.C.Clock.told left c.args.since c.new-wait.result.deadline c.sleep-end.result a x) (sym c.watch.view_is) c.sleep-end.ensures.sleeps) in
    subst (λ (p : PassesParts g.row.D.Denot). WaitsLong g.D.Disk.seen c.args.shared.now c.args.wish.now left c.args.since c.sleep-end.result p new
    (g.C.Clock.told c.args.clock.now) (g.C.Clock.told c.watch.inside.clock)) c.passes.view_is
    (subst (λ t. WaitsLong g.D.Disk.seen c.args.shared.now c.args.wish.now left c.args.since c.sleep-end.result old new t (g.C.Clock.told c.watch.inside.clock)) clock w)

pub returns-clause-stay : goal.returns-clause-stay
returns-clause-stay g c = long_stay g.D.Disk.seen c.args.shared.now c.args.wish.now _ _ _ _ _ _ _ c.requires.of (returns-clause-waits g c)
