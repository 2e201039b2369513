use Rattle.std.proofs.Common.{rules, ◌≡◌, ◌∷◌, [], List, length, subst, sym, arith}
use Rattle.std.proofs.lemmas.List.{nil_from_length}
use Rattle.shard_lock.specs.Passes.{LockParts, PassParts}
use Rattle.broker_shards.specs.Hosts.{Host}
use Rattle.broker_shards.specs.declared.part.PartEvent.{PartEvent}
use Rattle.broker_locks.specs.Shared.{PartAnswer}
use Rattle.broker_locks.proofs.Closings.{Closing, closing_all, closing_apart, closing_first, closing_named, closing_on, closing_out}
use Rattle.broker_locks.proofs.close.close_parts.Goals as goal

pub loop-lock-init : goal.loop-lock-init
loop-lock-init g c =
    let K : Type 0 = LockParts (Host g.row.D.Denot) in
    let P : Type 0 = PassParts (Host g.row.D.Denot) PartEvent PartAnswer in
    let ls : c.into_iter-lock-iterator.result.rest.items ≡ c.args.locks.items = search rules in
    let ps : c.into_iter-passes.result.rest.items ≡ c.args.passes.items = search rules in
    subst (λ (x : List K × List P). Closing g.B.Bay.seen g.D.Disk.seen c.args.locks.items x.0 c.args.passes.items x.1 c.args.bay.now c.args.bay.now) (λ i. (sym ls i, sym ps i))
    (closing_first g.B.Bay.seen g.D.Disk.seen c.args.locks.items c.args.passes.items c.args.bay.now c.requires.all.0 c.requires.all.1 c.requires.all.2)

pub put_back-requires-clause-named : goal.put_back-requires-clause-named
put_back-requires-clause-named g c =
    let is : c.loop-lock.lock-iterator.rest.items ≡ c.in-Some.lock ∷ c.next.new.self.rest.items = c.in-Some.ensures.steps.0 in
    let has : c.loop-lock.passes.rest.items ≡ c.in-Some-next.pass ∷ c.next-in-loop-lock.new.self.rest.items = search rules in
    closing_named g.B.Bay.seen g.D.Disk.seen c.args.locks.items c.loop-lock.lock-iterator.rest.items c.next.new.self.rest.items c.args.passes.items c.loop-lock.passes.rest.items
    c.next-in-loop-lock.new.self.rest.items c.in-Some.lock c.in-Some-next.pass c.args.bay.now c.loop-lock.bay c.loop-lock.invariant is has c.close.result
    c.close.ensures.left c.requires.named

pub put_back-requires-clause-apart : goal.put_back-requires-clause-apart
put_back-requires-clause-apart g c =
    let is : c.loop-lock.lock-iterator.rest.items ≡ c.in-Some.lock ∷ c.next.new.self.rest.items = c.in-Some.ensures.steps.0 in
    let has : c.loop-lock.passes.rest.items ≡ c.in-Some-next.pass ∷ c.next-in-loop-lock.new.self.rest.items = search rules in
    closing_apart g.B.Bay.seen g.D.Disk.seen c.args.locks.items c.loop-lock.lock-iterator.rest.items c.next.new.self.rest.items c.args.passes.items c.loop-lock.passes.rest.items
    c.next-in-loop-lock.new.self.rest.items c.in-Some.lock c.in-Some-next.pass c.args.bay.now c.loop-lock.bay c.loop-lock.invariant is has c.close.result
    c.close.ensures.left c.requires.apart

pub put_back-requires-clause-out : goal.put_back-requires-clause-out
put_back-requires-clause-out g c =
    let is : c.loop-lock.lock-iterator.rest.items ≡ c.in-Some.lock ∷ c.next.new.self.rest.items = c.in-Some.ensures.steps.0 in
    let has : c.loop-lock.passes.rest.items ≡ c.in-Some-next.pass ∷ c.next-in-loop-lock.new.self.rest.items = search rules in
    closing_out g.B.Bay.seen g.D.Disk.seen c.args.locks.items c.loop-lock.lock-iterator.rest.items c.next.new.self.rest.items c.args.passes.items c.loop-lock.passes.rest.items
    c.next-in-loop-lock.new.self.rest.items c.in-Some.lock c.in-Some-next.pass c.args.bay.now c.loop-lock.bay c.loop-lock.invariant is has c.close.result
    c.close.ensures.left c.requires.apart c.requires.out

pub loop-lock-preserved : goal.loop-lock-preserved
loop-lock-preserved g c =
    let is : c.loop-lock.lock-iterator.rest.items ≡ c.in-Some.lock ∷ c.next.new.self.rest.items = c.in-Some.ensures.steps.0 in
    let has : c.loop-lock.passes.rest.items ≡ c.in-Some-next.pass ∷ c.next-in-loop-lock.new.self.rest.items = search rules in
    closing_on g.B.Bay.seen g.D.Disk.seen c.args.locks.items c.loop-lock.lock-iterator.rest.items c.next.new.self.rest.items c.args.passes.items c.loop-lock.passes.rest.items
    c.next-in-loop-lock.new.self.rest.items c.in-Some.lock c.in-Some-next.pass c.args.bay.now c.loop-lock.bay c.loop-lock.invariant is has c.close.result
    c.close.ensures.left c.put_back.new.bay c.close.ensures.account c.put_back.ensures

pub returns : goal.returns
returns g c =
    let zero : length c.loop-lock.lock-iterator.rest.items ≡ 0 = omega (arith, c.loop-lock.lock-iterator.rest.ok, c.in-None.ensures.steps.0) in
    let none : c.loop-lock.lock-iterator.rest.items ≡ [] = nil_from_length c.loop-lock.lock-iterator.rest.items zero in
    closing_all g.B.Bay.seen g.D.Disk.seen c.args.locks.items c.loop-lock.lock-iterator.rest.items c.args.passes.items c.loop-lock.passes.rest.items c.args.bay.now c.loop-lock.bay
    c.loop-lock.invariant none
