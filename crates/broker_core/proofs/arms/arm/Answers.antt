use Rattle.std.proofs.Common.{◌≡◌, ◌<◌, refl, subst, length, get_or, set, rules}
use Rattle.edge_io.specs.Names.{hosted_name}
use Rattle.broker_model.specs.Hosted.{HoldsAt, part_disks}
use Rattle.broker_model.proofs.Lists.{changes_so}
use Rattle.broker_hosts.specs.declared.slot.PartSlot.{PartSlot}
use Rattle.broker_core.specs.Calls.{ArmsSlot}
use Rattle.broker_hosts.specs.Hosts.{IsOpenState, NotIn, hosted_slots, parts_of}
use Rattle.broker_hosts.proofs.Places.{all_at, changes_set, holds_within}
use Rattle.broker_core.proofs.Arming.{arms_state, arms_state_stays, part_is_armed, turned_arms}
use Rattle.broker_core.proofs.Calling.{Turned, turned_stays}
use Rattle.broker_core.proofs.arms.arm.Goals as goal

pub index_mut-requires : goal.index_mut-requires
index_mut-requires g c =
    let lt = holds_within (λ (s : PartSlot g.row.D.Denot). hosted_name s.topic s.conf.part c.in-Some.place ≡ c.args.disk.now) c.in-Some.number c.deref.result.now c.in-Some.ensures.at in
    let at : c.in-Some.number < length c.args.hosts.now.parts.items = subst (λ l. c.in-Some.number < length l) c.deref.ensures.value lt in
    search rules

pub arm_part-requires-clause-open : goal.arm_part-requires-clause-open
arm_part-requires-clause-open g c =
    let lt = holds_within (λ (s : PartSlot g.row.D.Denot). hosted_name s.topic s.conf.part c.in-Some.place ≡ c.args.disk.now) c.in-Some.number c.deref.result.now c.in-Some.ensures.at in
    let at : c.in-Some.number < length c.args.hosts.now.parts.items = subst (λ l. c.in-Some.number < length l) c.deref.ensures.value lt in
    let is : c.index_mut.result.now ≡ get_or c.args.hosts.now.parts.items c.in-Some.number c.index_mut.result.now = search rules in
    all_at (λ (s : PartSlot g.row.D.Denot). IsOpenState s.state) c.in-Some.number c.args.hosts.now.parts.items c.index_mut.result.now c.requires.open.parts at is

pub returns-in-Some-clause-ok : goal.returns-in-Some-clause-ok
returns-in-Some-clause-ok g c =
    let there = subst (λ l. HoldsAt c.in-Some.number (λ (s : PartSlot g.row.D.Denot). hosted_name s.topic s.conf.part c.in-Some.place ≡ c.args.disk.now) l) c.deref.ensures.value c.in-Some.ensures.at in
    let lt = holds_within (λ (s : PartSlot g.row.D.Denot). hosted_name s.topic s.conf.part c.in-Some.place ≡ c.args.disk.now) c.in-Some.number c.args.hosts.now.parts.items there in
    let is : c.index_mut.result.now ≡ get_or c.args.hosts.now.parts.items c.in-Some.number c.index_mut.result.now = search rules in
    let changes = changes_set (ArmsSlot g.D.Disk.seen c.in-Some.place c.args.after c.args.mode)
    c.in-Some.number c.args.hosts.now.parts.items c.index_mut.result.now c.arm_part.new.slot lt is c.arm_part.ensures in
    part_is_armed g.D.Disk.seen
    (parts_of c.args.hosts.now) (set c.args.hosts.now.parts.items c.in-Some.number c.arm_part.new.slot) c.in-Some.number c.in-Some.place c.args.disk.now c.args.after c.args.mode there changes c.requires.apart

pub returns-in-Some-clause-stays : goal.returns-in-Some-clause-stays
returns-in-Some-clause-stays g c =
    let there = subst (λ l. HoldsAt c.in-Some.number (λ (s : PartSlot g.row.D.Denot). hosted_name s.topic s.conf.part c.in-Some.place ≡ c.args.disk.now) l) c.deref.ensures.value c.in-Some.ensures.at in
    let lt = holds_within (λ (s : PartSlot g.row.D.Denot). hosted_name s.topic s.conf.part c.in-Some.place ≡ c.args.disk.now) c.in-Some.number c.args.hosts.now.parts.items there in
    let is : c.index_mut.result.now ≡ get_or c.args.hosts.now.parts.items c.in-Some.number c.index_mut.result.now = search rules in
    let changes = changes_set (ArmsSlot g.D.Disk.seen c.in-Some.place c.args.after c.args.mode)
    c.in-Some.number c.args.hosts.now.parts.items c.index_mut.result.now c.arm_part.new.slot lt is c.arm_part.ensures in
    turned_stays g.D.Disk.seen
    (parts_of c.args.hosts.now) (set c.args.hosts.now.parts.items c.in-Some.number c.arm_part.new.slot) c.in-Some.number c.requires.open
    (changes_so c.in-Some.number (ArmsSlot g.D.Disk.seen c.in-Some.place c.args.after c.args.mode) (Turned g.D.Disk.seen)
    (turned_arms g.D.Disk.seen c.in-Some.place c.args.after c.args.mode)
    c.args.hosts.now.parts.items (set c.args.hosts.now.parts.items c.in-Some.number c.arm_part.new.slot) changes)

pub returns-in-None-clause-ok : goal.returns-in-None-clause-ok
returns-in-None-clause-ok g c =
    let away = subst (λ l. NotIn (part_disks (hosted_slots l)) c.args.disk.now) c.deref.ensures.value c.in-None.ensures.at in
    arms_state g.D.Disk.seen
    (parts_of c.args.hosts.now) (record { parts = c.args.hosts.now.parts.items; members = c.args.hosts.now.members.members; foreign = c.arm_foreign.new.slot })
    c.args.disk.now c.args.after c.args.mode away c.arm_foreign.ensures refl refl c.requires.apart

pub returns-in-None-clause-stays : goal.returns-in-None-clause-stays
returns-in-None-clause-stays g c =
    let away = subst (λ l. NotIn (part_disks (hosted_slots l)) c.args.disk.now) c.deref.ensures.value c.in-None.ensures.at in
    arms_state_stays g.D.Disk.seen
    (parts_of c.args.hosts.now) (record { parts = c.args.hosts.now.parts.items; members = c.args.hosts.now.members.members; foreign = c.arm_foreign.new.slot })
    c.args.disk.now c.args.after c.args.mode away c.arm_foreign.ensures refl refl c.requires.apart c.requires.open
