use Rattle.std.proofs.Common.{◌≡◌, [], length, sym, subst, arith}
use Rattle.std.proofs.lemmas.List.{nil_from_length}
use Rattle.broker_model.specs.Hosted.{IsOneOf, part_disks}
use Rattle.broker_hosts.specs.Hosts.{AreDistinct, AreHeldParts, AreNamed, hosted_slots}
use Rattle.broker_hosts.proofs.Partitions.{going_all, going_apart, going_distinct, going_in, going_named, going_on, going_out, going_slots_named, takes_held}
use Rattle.broker_hosts.proofs.bay.take_parts.Goals as goal

pub add_part-requires-clause-named : goal.add_part-requires-clause-named
add_part-requires-clause-named g c = going_named g.B.Bay.seen g.D.Disk.seen
    c.args.parts.items c.loop-part.yielded c.loop-part.part-iterator.rest.items c.next.new.self.rest.items c.in-Some.part c.args.bay.now c.loop-part.slots.items c.loop-part.bay
    c.loop-part.invariant c.in-Some.ensures.steps.0 c.requires.named

pub add_part-requires-clause-apart : goal.add_part-requires-clause-apart
add_part-requires-clause-apart g c = going_apart g.B.Bay.seen g.D.Disk.seen
    c.args.parts.items c.loop-part.yielded c.loop-part.part-iterator.rest.items c.next.new.self.rest.items c.in-Some.part c.args.bay.now c.loop-part.slots.items c.loop-part.bay
    c.loop-part.invariant c.in-Some.ensures.steps.0 c.requires.distinct

pub add_part-requires-clause-not_out : goal.add_part-requires-clause-not_out
add_part-requires-clause-not_out g c = going_in g.B.Bay.seen g.D.Disk.seen
    c.args.parts.items c.loop-part.yielded c.loop-part.part-iterator.rest.items c.next.new.self.rest.items c.in-Some.part c.args.bay.now c.loop-part.slots.items c.loop-part.bay
    c.loop-part.invariant c.in-Some.ensures.steps.0 c.requires.distinct (λ m. c.requires.out.others m tt)

pub put_parts_back-requires-clause-named : goal.put_parts_back-requires-clause-named
put_parts_back-requires-clause-named g c = subst (λ l. AreNamed (hosted_slots l)) (sym c.in-Err.ensures.err.1) (going_slots_named g.B.Bay.seen g.D.Disk.seen
    c.args.parts.items c.loop-part.yielded c.loop-part.part-iterator.rest.items c.next.new.self.rest.items c.in-Some.part c.args.bay.now c.loop-part.slots.items c.loop-part.bay
    c.loop-part.invariant c.in-Some.ensures.steps.0 c.requires.named)

pub put_parts_back-requires-clause-held : goal.put_parts_back-requires-clause-held
put_parts_back-requires-clause-held g c = subst (λ l. AreHeldParts l) (sym c.in-Err.ensures.err.1)
    (takes_held g.B.Bay.seen g.D.Disk.seen
    c.loop-part.yielded c.args.bay.now c.loop-part.slots.items c.loop-part.bay c.loop-part.invariant.takes)

pub put_parts_back-requires-clause-distinct : goal.put_parts_back-requires-clause-distinct
put_parts_back-requires-clause-distinct g c = subst (λ l. AreDistinct (part_disks (hosted_slots l))) (sym c.in-Err.ensures.err.1)
    (going_distinct g.B.Bay.seen g.D.Disk.seen
    c.args.parts.items c.loop-part.yielded c.loop-part.part-iterator.rest.items c.next.new.self.rest.items c.in-Some.part c.args.bay.now c.loop-part.slots.items c.loop-part.bay
    c.loop-part.invariant c.in-Some.ensures.steps.0 c.requires.distinct)

pub put_parts_back-requires-clause-out : goal.put_parts_back-requires-clause-out
put_parts_back-requires-clause-out g c = λ name one. going_out g.B.Bay.seen g.D.Disk.seen
    c.args.parts.items c.loop-part.yielded c.loop-part.part-iterator.rest.items c.next.new.self.rest.items c.in-Some.part c.args.bay.now c.loop-part.slots.items c.loop-part.bay
    c.loop-part.invariant c.in-Some.ensures.steps.0 c.requires.distinct c.add_part.new.bay c.in-Err.ensures.err.0.others name
    (subst (λ l. IsOneOf (part_disks (hosted_slots l)) name) c.in-Err.ensures.err.1 one)

pub loop-part-preserved : goal.loop-part-preserved
loop-part-preserved g c =
    let ok = c.in_default.ensures.ok in
    going_on g.B.Bay.seen g.D.Disk.seen
    c.args.parts.items c.loop-part.yielded c.loop-part.part-iterator.rest.items c.next.new.self.rest.items c.in-Some.part c.args.bay.now c.loop-part.slots.items c.loop-part.bay
    c.loop-part.invariant c.in-Some.ensures.steps.0 ok.0 c.add_part.new.bay c.add_part.new.slots.items ok.1 ok.2

pub returns-clause-ok : goal.returns-clause-ok
returns-clause-ok g c =
    let zero : length c.loop-part.part-iterator.rest.items ≡ 0 = omega (arith, c.loop-part.part-iterator.rest.ok, c.in-None.ensures.steps.0) in
    let none : c.loop-part.part-iterator.rest.items ≡ [] = nil_from_length c.loop-part.part-iterator.rest.items zero in
    going_all g.B.Bay.seen g.D.Disk.seen
    c.args.parts.items c.loop-part.yielded c.loop-part.part-iterator.rest.items c.args.bay.now c.loop-part.slots.items c.loop-part.bay c.loop-part.invariant none
