use Rattle.std.proofs.Common.{◌≡◌, ◌∷◌, [], ap, arith, length, subst, rules}
use Rattle.std.proofs.lemmas.List.{nil_from_length}
use Rattle.broker_core.proofs.Arming.{LooksIn, looks_first, looks_found, looks_none, looks_on}
use Rattle.broker_core.proofs.arms.place_of.Goals as goal

pub loop-slot-init : goal.loop-slot-init
loop-slot-init g c = looks_first c.args.disk.now c.args.parts.now c.requires

pub returns-in-Some-place_in-clause-at : goal.returns-in-Some-place_in-clause-at
returns-in-Some-place_in-clause-at g c =
    let parts : c.loop-slot.rest.now ≡ c.in-Some.slot.now ∷ c.in-Some.others.now = search rules in
    looks_found c.args.disk.now c.args.parts.now c.loop-slot.number c.in-Some.slot.now c.in-Some.others.now c.in-Some-place_in.place
    (subst (λ l. LooksIn c.args.disk.now c.args.parts.now c.loop-slot.number l) parts c.loop-slot.invariant) c.in-Some-place_in.ensures.at

pub loop-slot-preserved : goal.loop-slot-preserved
loop-slot-preserved g c =
    let parts : c.loop-slot.rest.now ≡ c.in-Some.slot.now ∷ c.in-Some.others.now = search rules in
    looks_on c.args.disk.now c.args.parts.now c.loop-slot.number c.in-Some.slot.now c.in-Some.others.now
    (subst (λ l. LooksIn c.args.disk.now c.args.parts.now c.loop-slot.number l) parts c.loop-slot.invariant) c.in_default-place_in.ensures.at

pub returns-clause-at : goal.returns-clause-at
returns-clause-at g c =
    let none : c.loop-slot.rest.now ≡ [] = nil_from_length c.loop-slot.rest.now c.in_default.ensures.cases in
    looks_none c.args.disk.now c.args.parts.now c.loop-slot.number
    (subst (λ l. LooksIn c.args.disk.now c.args.parts.now c.loop-slot.number l) none c.loop-slot.invariant)

pub overflow_add-number : goal.overflow_add-number
overflow_add-number g c =
    let parts : c.loop-slot.rest.now ≡ c.in-Some.slot.now ∷ c.in-Some.others.now = search rules in
    let counted = c.loop-slot.invariant.counted in
    omega (arith, counted, ap length parts)
