use Rattle.std.proofs.Common.{◌≡◌, [], length, arith}
use Rattle.std.proofs.lemmas.List.{nil_from_length}
use Rattle.broker_hosts.proofs.Partitions.{putting_all, putting_apart, putting_held, putting_named, putting_on, putting_out}
use Rattle.broker_hosts.proofs.bay.put_parts_back.Goals as goal

pub put_part_back-requires-clause-named : goal.put_part_back-requires-clause-named
put_part_back-requires-clause-named g c = putting_named g.B.Bay.seen g.D.Disk.seen
    c.args.slots.items c.loop-slot.yielded c.loop-slot.slot-iterator.rest.items c.next.new.self.rest.items c.in-Some.slot c.args.bay.now c.loop-slot.bay
    c.loop-slot.invariant c.in-Some.ensures.steps.0 c.requires.named

pub put_part_back-requires-clause-held : goal.put_part_back-requires-clause-held
put_part_back-requires-clause-held g c = putting_held g.B.Bay.seen g.D.Disk.seen
    c.args.slots.items c.loop-slot.yielded c.loop-slot.slot-iterator.rest.items c.next.new.self.rest.items c.in-Some.slot c.args.bay.now c.loop-slot.bay
    c.loop-slot.invariant c.in-Some.ensures.steps.0 c.requires.held

pub put_part_back-requires-clause-apart : goal.put_part_back-requires-clause-apart
put_part_back-requires-clause-apart g c = putting_apart g.B.Bay.seen g.D.Disk.seen
    c.args.slots.items c.loop-slot.yielded c.loop-slot.slot-iterator.rest.items c.next.new.self.rest.items c.in-Some.slot c.args.bay.now c.loop-slot.bay
    c.loop-slot.invariant c.in-Some.ensures.steps.0 c.requires.distinct

pub put_part_back-requires-clause-out : goal.put_part_back-requires-clause-out
put_part_back-requires-clause-out g c = putting_out g.B.Bay.seen g.D.Disk.seen
    c.args.slots.items c.loop-slot.yielded c.loop-slot.slot-iterator.rest.items c.next.new.self.rest.items c.in-Some.slot c.args.bay.now c.loop-slot.bay
    c.loop-slot.invariant c.in-Some.ensures.steps.0 c.requires.distinct c.requires.out

pub loop-slot-preserved : goal.loop-slot-preserved
loop-slot-preserved g c = putting_on g.B.Bay.seen g.D.Disk.seen
    c.args.slots.items c.loop-slot.yielded c.loop-slot.slot-iterator.rest.items c.next.new.self.rest.items c.in-Some.slot c.args.bay.now c.loop-slot.bay
    c.loop-slot.invariant c.in-Some.ensures.steps.0 c.put_part_back.new.bay c.put_part_back.ensures

pub returns : goal.returns
returns g c =
    let zero : length c.loop-slot.slot-iterator.rest.items ≡ 0 = omega (arith, c.loop-slot.slot-iterator.rest.ok, c.in-None.ensures.steps.0) in
    let none : c.loop-slot.slot-iterator.rest.items ≡ [] = nil_from_length c.loop-slot.slot-iterator.rest.items zero in
    putting_all g.B.Bay.seen g.D.Disk.seen
    c.args.slots.items c.loop-slot.yielded c.loop-slot.slot-iterator.rest.items c.args.bay.now c.loop-slot.bay c.loop-slot.invariant none
