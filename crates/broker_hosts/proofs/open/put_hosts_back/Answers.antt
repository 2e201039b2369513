use Rattle.std.proofs.Common.{inl, inr, refl, sym, ◌∙◌, ◌∷◌, [], subst}
use Rattle.broker_model.specs.Hosted.{part_disks, state_a, state_b}
use Rattle.broker_hosts.specs.Hosts.{NotIn, hosted_slots, slots_disks}
use Rattle.broker_hosts.proofs.Places.{one_in_front, one_in_rest}
use Rattle.broker_hosts.proofs.Partitions.{names_of_disks}
use Rattle.broker_hosts.proofs.Starting.{no_state_a, no_state_b, parts_distinct}
use Rattle.broker_hosts.proofs.Taking.{puts_others}
use Rattle.broker_hosts.proofs.open.put_hosts_back.Goals as goal

pub put_parts_back-requires-clause-distinct : goal.put_parts_back-requires-clause-distinct
put_parts_back-requires-clause-distinct g c = parts_distinct (hosted_slots c.args.hosts.parts.items) c.requires.apart

pub put_parts_back-requires-clause-out : goal.put_parts_back-requires-clause-out
put_parts_back-requires-clause-out g c = λ name one.
    c.requires.out name (one_in_front (part_disks (hosted_slots c.args.hosts.parts.items)) (state_a ∷ state_b ∷ []) name one)

pub put_foreign_back-requires-clause-first : goal.put_foreign_back-requires-clause-first
put_foreign_back-requires-clause-first g c =
    (puts_others g.B.Bay.seen g.D.Disk.seen (slots_disks c.args.hosts.parts.items) c.args.bay.now
    c.put_parts_back.new.bay c.put_parts_back.ensures state_a
    (subst (λ l. NotIn l state_a) (sym (names_of_disks c.args.hosts.parts.items)) (no_state_a (hosted_slots c.args.hosts.parts.items) c.requires.apart))).same_out
    ∙ c.requires.out state_a (one_in_rest (part_disks (hosted_slots c.args.hosts.parts.items)) (state_a ∷ state_b ∷ []) state_a (inl refl))

pub put_foreign_back-requires-clause-second : goal.put_foreign_back-requires-clause-second
put_foreign_back-requires-clause-second g c =
    (puts_others g.B.Bay.seen g.D.Disk.seen (slots_disks c.args.hosts.parts.items) c.args.bay.now
    c.put_parts_back.new.bay c.put_parts_back.ensures state_b
    (subst (λ l. NotIn l state_b) (sym (names_of_disks c.args.hosts.parts.items)) (no_state_b (hosted_slots c.args.hosts.parts.items) c.requires.apart))).same_out
    ∙ c.requires.out state_b (one_in_rest (part_disks (hosted_slots c.args.hosts.parts.items)) (state_a ∷ state_b ∷ []) state_b (inr (inl refl)))
