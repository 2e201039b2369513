use Rattle.std.proofs.Common.{◌≡◌, ◌<◌, ◌+◌, subst, arith, suc, length, get_or, set, Err, rules}
use Rattle.edge_io.specs.Names.{IsTopicName}
use Rattle.broker_hosts.specs.Hosts.{IsOpenState}
use Rattle.broker_core.specs.Restarts.{ReopensSlot, StopsAt}
use Rattle.broker_hosts.proofs.Taking.{err_at}
use Rattle.broker_hosts.proofs.Places.{DoneTo, done_all, done_at, done_on}
use Rattle.broker_core.proofs.Losing.{done_stops, slots_named}
use Rattle.broker_core.proofs.power.lose_parts.Goals as goal

pub lose_part-requires-clause-open : goal.lose_part-requires-clause-open
lose_part-requires-clause-open g c =
    let lt : c.parts.place < length c.parts.parts.items = search rules in
    let is : c.index_mut.result.now ≡ get_or c.parts.parts.items c.parts.place c.index_mut.result.now = search rules in
    done_at (ReopensSlot g.D.Disk.seen c.args.choice) (λ s. IsOpenState s.state) c.parts.place c.args.parts.now.items c.parts.parts.items c.index_mut.result.now
    c.parts.invariant c.requires.open lt is

pub lose_part-requires-clause-named : goal.lose_part-requires-clause-named
lose_part-requires-clause-named g c =
    let lt : c.parts.place < length c.parts.parts.items = search rules in
    let is : c.index_mut.result.now ≡ get_or c.parts.parts.items c.parts.place c.index_mut.result.now = search rules in
    done_at (ReopensSlot g.D.Disk.seen c.args.choice) (λ s. IsTopicName s.topic) c.parts.place c.args.parts.now.items c.parts.parts.items c.index_mut.result.now
    c.parts.invariant (slots_named c.args.parts.now.items c.requires.named) lt is

pub returns-in_err-lose_part-clause-stopped : goal.returns-in_err-lose_part-clause-stopped
returns-in_err-lose_part-clause-stopped g c =
    let lt : c.parts.place < length c.parts.parts.items = search rules in
    let is : c.index_mut.result.now ≡ get_or c.parts.parts.items c.parts.place c.index_mut.result.now = search rules in
    let err : c.from_residual.result ≡ Err c.in_err-lose_part.field-0.0 = search rules in
    err_at (λ e. StopsAt g.D.Disk.seen c.args.choice e c.args.parts.now.items (set c.parts.parts.items c.parts.place c.lose_part.new.slot)) c.from_residual.result
    c.in_err-lose_part.field-0.0 err
    (done_stops g.D.Disk.seen c.args.choice c.in_err-lose_part.field-0.0 c.parts.place c.args.parts.now.items c.parts.parts.items c.index_mut.result.now c.lose_part.new.slot
    c.parts.invariant lt is c.in_err-lose_part.ensures.stopped)

pub parts-preserved : goal.parts-preserved
parts-preserved g c =
    let lt : c.parts.place < length c.parts.parts.items = search rules in
    let is : c.index_mut.result.now ≡ get_or c.parts.parts.items c.parts.place c.index_mut.result.now = search rules in
    let next : suc c.parts.place ≡ c.parts.place + 1 = omega arith in
    subst (λ n. DoneTo n (ReopensSlot g.D.Disk.seen c.args.choice) c.args.parts.now.items (set c.parts.parts.items c.parts.place c.lose_part.new.slot)) next
    (done_on (ReopensSlot g.D.Disk.seen c.args.choice) c.parts.place c.args.parts.now.items c.parts.parts.items c.index_mut.result.now c.lose_part.new.slot
    c.parts.invariant lt is c.in_ok-lose_part.ensures.ok)

pub returns-clause-ok : goal.returns-clause-ok
returns-clause-ok g c = done_all (ReopensSlot g.D.Disk.seen c.args.choice) c.parts.place c.args.parts.now.items c.parts.parts.items c.parts.invariant (search rules)
