use Rattle.std.proofs.Common.{◌≡◌, None, subst, sym}
use Rattle.edge_mem.specs.Bays.{BayState, disk_at, out_at, found}
use Rattle.edge_mem.proofs.Slots.{IsAt, is_at, is_absent, some_slot, lies, take_given, take_others, made_given, made_others, same_slot}
use Rattle.edge_mem.proofs.bay.MemBay.take_named.Goals as goal

at : (c : goal.After-take_at) → IsAt c.self.inside.slots.items c.args.name.now c.in-Some.at
at c = is_at _ _ _ _ _ c.deref.ensures.value c.as_bytes.ensures.same c.in-Some.ensures.at

absent : (c : goal.In_ok-disk-in-None) → found c.self.inside.slots.items c.args.name.now ≡ None
absent c = is_absent _ _ _ _ c.deref.ensures.value c.as_bytes.ensures.same c.in-None.ensures.at

pub take_at-requires-clause-there : goal.take_at-requires-clause-there
take_at-requires-clause-there c = λ d. lies c.self.inside.slots.items c.self.inside.slots.items _ _
    (is_at _ _ _ _ _ c.deref.ensures.value c.as_bytes.ensures.same c.in-Some.ensures.at)
    (subst (λ (b : BayState). out_at b c.args.name.now ≡ _) (sym c.self.view_is) c.requires) d

pub returns-in-Some-clause-given : goal.returns-in-Some-clause-given
returns-in-Some-clause-given c = subst (λ (b : BayState). c.take_at.result ≡ disk_at b c.args.name.now) c.self.view_is
    (take_given _ _ _ _ (at c) some_slot _ (c.take_at.ensures some_slot)).0

pub returns-in-Some-clause-is_out : goal.returns-in-Some-clause-is_out
returns-in-Some-clause-is_out c = let given = take_given _ _ _ _ (at c) some_slot _ (c.take_at.ensures some_slot) in (given.1, given.2)

pub returns-in-Some-clause-others : goal.returns-in-Some-clause-others
returns-in-Some-clause-others c = λ m away. same_slot _ _ _ m c.self.view_is (take_others _ _ _ _ (at c) some_slot _ (c.take_at.ensures some_slot) m away)

pub returns-in_ok-disk-in-None-clause-given : goal.returns-in_ok-disk-in-None-clause-given
returns-in_ok-disk-in-None-clause-given c =
    let made = c.in_ok-disk-in-None.ensures.ok in
    subst (λ (b : BayState). c.in_ok-disk-in-None.disk ≡ disk_at b c.args.name.now) c.self.view_is
    (made_given _ _ _ made.1.0 (absent c) made.1.1 made.1.2 made.1.3 made.1.4 _ made.0).0

pub returns-in_ok-disk-in-None-clause-is_out : goal.returns-in_ok-disk-in-None-clause-is_out
returns-in_ok-disk-in-None-clause-is_out c =
    let made = c.in_ok-disk-in-None.ensures.ok in
    let given = made_given _ _ _ made.1.0 (absent c) made.1.1 made.1.2 made.1.3 made.1.4 _ made.0 in (given.1, given.2)

pub returns-in_ok-disk-in-None-clause-others : goal.returns-in_ok-disk-in-None-clause-others
returns-in_ok-disk-in-None-clause-others c = λ m away.
    let made = c.in_ok-disk-in-None.ensures.ok in
    same_slot _ _ _ m c.self.view_is (made_others _ _ _ made.1.0 (absent c) made.1.1 made.1.2 made.1.3 made.1.4 m away)
