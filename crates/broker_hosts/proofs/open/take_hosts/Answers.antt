use Rattle.std.proofs.Common.{sym, ◌∙◌, subst}
use Rattle.broker_model.specs.Hosted.{IsOneOf, hosted_of, part_disks, state_a, state_b}
use Rattle.broker_hosts.specs.Hosts.{AreDistinct, AreNamed, NotIn, all_names}
use Rattle.broker_hosts.proofs.Naming.{distinct_names, named_of}
use Rattle.broker_hosts.proofs.Partitions.{takes_held, takes_hosts, takes_others, takes_out}
use Rattle.broker_hosts.proofs.Starting.{no_state_a, no_state_b, not_states, parts_distinct}
use Rattle.broker_hosts.proofs.open.take_hosts.Goals as goal

pub take_parts-requires-clause-named : goal.take_parts-requires-clause-named
take_parts-requires-clause-named g c = subst (λ l. AreNamed l) (sym c.in-Ok.ensures.parts) (named_of c.args.conf.now c.hosted_parts.ensures.list)

pub take_parts-requires-clause-distinct : goal.take_parts-requires-clause-distinct
take_parts-requires-clause-distinct g c = subst (λ l. AreDistinct (part_disks l)) (sym c.in-Ok.ensures.parts)
    (parts_distinct (hosted_of c.args.conf.now) (distinct_names c.args.conf.now c.hosted_parts.ensures.list))

pub take_foreign-requires-clause-first : goal.take_foreign-requires-clause-first
take_foreign-requires-clause-first g c =
    (takes_others g.B.Bay.seen g.D.Disk.seen
    c.in-Ok.hosted.items c.args.bay.now c.in_ok-parts.parts.items c.take_parts.new.bay c.in_ok-parts.ensures.ok state_a
    (subst (λ l. NotIn (part_disks l) state_a) (sym c.in-Ok.ensures.parts) (no_state_a (hosted_of c.args.conf.now) (distinct_names c.args.conf.now c.hosted_parts.ensures.list)))).same_out
    ∙ c.requires.others state_a tt

pub take_foreign-requires-clause-second : goal.take_foreign-requires-clause-second
take_foreign-requires-clause-second g c =
    (takes_others g.B.Bay.seen g.D.Disk.seen
    c.in-Ok.hosted.items c.args.bay.now c.in_ok-parts.parts.items c.take_parts.new.bay c.in_ok-parts.ensures.ok state_b
    (subst (λ l. NotIn (part_disks l) state_b) (sym c.in-Ok.ensures.parts) (no_state_b (hosted_of c.args.conf.now) (distinct_names c.args.conf.now c.hosted_parts.ensures.list)))).same_out
    ∙ c.requires.others state_b tt

pub put_parts_back-requires-clause-named : goal.put_parts_back-requires-clause-named
put_parts_back-requires-clause-named g c = subst (λ l. AreNamed l)
    (sym (takes_hosts g.B.Bay.seen g.D.Disk.seen
    c.in-Ok.hosted.items c.args.bay.now c.in_ok-parts.parts.items c.take_parts.new.bay c.in_ok-parts.ensures.ok))
    (subst (λ l. AreNamed l) (sym c.in-Ok.ensures.parts) (named_of c.args.conf.now c.hosted_parts.ensures.list))

pub put_parts_back-requires-clause-held : goal.put_parts_back-requires-clause-held
put_parts_back-requires-clause-held g c = takes_held g.B.Bay.seen g.D.Disk.seen
    c.in-Ok.hosted.items c.args.bay.now c.in_ok-parts.parts.items c.take_parts.new.bay c.in_ok-parts.ensures.ok

pub put_parts_back-requires-clause-distinct : goal.put_parts_back-requires-clause-distinct
put_parts_back-requires-clause-distinct g c = subst (λ l. AreDistinct (part_disks l))
    (sym (takes_hosts g.B.Bay.seen g.D.Disk.seen
    c.in-Ok.hosted.items c.args.bay.now c.in_ok-parts.parts.items c.take_parts.new.bay c.in_ok-parts.ensures.ok))
    (subst (λ l. AreDistinct (part_disks l)) (sym c.in-Ok.ensures.parts)
    (parts_distinct (hosted_of c.args.conf.now) (distinct_names c.args.conf.now c.hosted_parts.ensures.list)))

pub put_parts_back-requires-clause-out : goal.put_parts_back-requires-clause-out
put_parts_back-requires-clause-out g c = λ name one.
    (let among_them = subst (λ l. IsOneOf (part_disks l) name)
    (takes_hosts g.B.Bay.seen g.D.Disk.seen
    c.in-Ok.hosted.items c.args.bay.now c.in_ok-parts.parts.items c.take_parts.new.bay c.in_ok-parts.ensures.ok) one in
    let apart = subst (λ l. AreDistinct (all_names l)) (sym c.in-Ok.ensures.parts) (distinct_names c.args.conf.now c.hosted_parts.ensures.list) in
    let away = not_states c.in-Ok.hosted.items apart name among_them in
    (c.in-Err.ensures.err.others name away.0 away.1).same_out
    ∙ takes_out g.B.Bay.seen g.D.Disk.seen
    c.in-Ok.hosted.items c.args.bay.now c.in_ok-parts.parts.items c.take_parts.new.bay (parts_distinct c.in-Ok.hosted.items apart) c.in_ok-parts.ensures.ok name among_them)
