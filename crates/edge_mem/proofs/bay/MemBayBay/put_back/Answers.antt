use Rattle.std.proofs.Common.{◌≡◌, ◌-◌, ℕ, true, false, sym, ap, ◌∙◌, subst, arith, rules, Some}
use Rattle.edge_mem.specs.Past.{DiskState}
use Rattle.edge_mem.specs.Bays.{BayState, out_in, out_at, taken_at}
use Rattle.edge_mem.proofs.Slots.{IsAt, is_at, is_absent, some_slot, count_at, put_there, put_others, same_slot}
use Rattle.edge_mem.proofs.bay.MemBayBay.put_back.Goals as goal

at : (c : goal.After-add_faults) → IsAt c.self.inside.slots.items c.args.name.now c.in-Some.at
at c = is_at _ _ _ _ _ c.deref.ensures.value c.as_bytes.ensures.same c.in-Some.ensures.at

pub unreachable-requires : goal.unreachable-requires
unreachable-requires c =
    let none = is_absent c.self.inside.slots.items _ c.args.name.now _ c.deref.ensures.value c.as_bytes.ensures.same c.in-None.ensures.at in
    let e : false ≡ true = sym (ap out_in none) ∙ subst (λ (b : BayState). out_at b c.args.name.now ≡ true) (sym c.self.view_is) c.requires in
    search rules

pub returns-clause-there : goal.returns-clause-there
returns-clause-there c = λ told. ap (λ (d : DiskState). Some d) (put_there _ _ _ _ (at c) some_slot _ (c.put_at-rose.ensures.put some_slot)).0

pub returns-clause-is_in : goal.returns-clause-is_in
returns-clause-is_in c = (put_there _ _ _ _ (at c) some_slot _ (c.put_at-rose.ensures.put some_slot)).1

pub returns-clause-taken : goal.returns-clause-taken
returns-clause-taken c = (put_there _ _ _ _ (at c) some_slot _ (c.put_at-rose.ensures.put some_slot)).2
    ∙ ap (λ (b : BayState). taken_at b c.args.name.now) c.self.view_is

pub returns-clause-disk : goal.returns-clause-disk
returns-clause-disk c = (put_there _ _ _ _ (at c) some_slot _ (c.put_at-rose.ensures.put some_slot)).0

pub returns-clause-others : goal.returns-clause-others
returns-clause-others c = λ m away. same_slot _ _ _ m c.self.view_is (put_others _ _ _ _ (at c) some_slot _ (c.put_at-rose.ensures.put some_slot) m away)

-- how much its count rose since it was taken
rose : (c : goal.After-add_faults) → c.put_at-rose.result ≡ c.args.given.faults - taken_at c.args.self.now c.args.name.now
rose c = c.put_at-rose.ensures.rose some_slot ∙ ap (λ (k : ℕ). c.args.given.faults - k)
    (sym (count_at c.self.inside.slots.items c.self.inside.slots.items _ _ (at c) some_slot)
    ∙ ap (λ (b : BayState). taken_at b c.args.name.now) c.self.view_is)

faults : (c : goal.After-add_faults) → c.self.inside.calls.faults ≡ c.args.self.now.faults
faults c = ap (λ (b : BayState). b.faults) c.self.view_is

pub returns-clause-counts : goal.returns-clause-counts
returns-clause-counts c = omega (arith, rose c, faults c, c.add_faults.ensures.sum)
