use Rattle.std.proofs.Common.{rules, ◌≡◌, ◌∷◌, ◌++◌, [], List, length, map, subst, sym, ap, ◌∙◌, append_assoc, arith}
use Rattle.std.proofs.lemmas.List.{nil_from_length, append-nil}
use Rattle.broker_hosts.specs.Hosts.{AreOpenParts, IsOpenState}
use Rattle.broker_hosts.specs.declared.slot.PartSlot.{PartSlot}
use Rattle.broker_shards.specs.Hosts.{Host}
use Rattle.broker_locks.specs.Opening.{slot_of}
use Rattle.broker_locks.proofs.Lines.{all_rest, map_snoc}
use Rattle.broker_locks.proofs.open.parts_in.Goals as goal

pub part_of-requires : goal.part_of-requires
part_of-requires g c =
    let S : Type 0 = PartSlot g.row.D.Denot in
    let split : c.loop-slot.yielded ++ c.in-Some.slot ∷ c.next.new.self.rest.items ≡ c.args.slots.items =
    ap (λ (l : List S). c.loop-slot.yielded ++ l) (sym c.in-Some.ensures.steps.0) ∙ c.loop-slot.invariant.1 in
    (all_rest (λ (s : S). IsOpenState s.state) c.loop-slot.yielded (c.in-Some.slot ∷ c.next.new.self.rest.items) (subst AreOpenParts (sym split) c.requires)).0

pub loop-slot-preserved : goal.loop-slot-preserved
loop-slot-preserved g c =
    let i = c.loop-slot.invariant in
    let H : Type 0 = Host g.row.D.Denot in
    let S : Type 0 = PartSlot g.row.D.Denot in
    let pushed : c.push.new.self.items ≡ c.loop-slot.hosts.items ++ c.part_of.result ∷ [] = search rules in (
      ap (λ (l : List H). map slot_of l) pushed ∙ map_snoc slot_of c.loop-slot.hosts.items c.part_of.result ∙ (λ j. i.0 j ++ c.part_of.ensures j ∷ []),
      append_assoc c.loop-slot.yielded (c.in-Some.slot ∷ []) c.next.new.self.rest.items ∙ ap (λ (l : List S). c.loop-slot.yielded ++ l) (sym c.in-Some.ensures.steps.0) ∙ i.1,
    )

pub returns : goal.returns
returns g c =
    let i = c.loop-slot.invariant in
    let none : length c.loop-slot.slot-iterator.rest.items ≡ 0 = omega (arith, c.loop-slot.slot-iterator.rest.ok, c.in-None.ensures.steps.0) in
    let rest : c.loop-slot.slot-iterator.rest.items ≡ [] = nil_from_length c.loop-slot.slot-iterator.rest.items none in
    i.0 ∙ sym (append-nil c.loop-slot.yielded) ∙ ap (λ (l : List (PartSlot g.row.D.Denot)). c.loop-slot.yielded ++ l) (sym rest) ∙ i.1
