use Rattle.std.proofs.Common.{◌≡◌, ◌∙◌, ◌-◌, ℕ, true, false, sym, ap, rules}
use Rattle.edge_real.specs.Folders.{out_in}
use Rattle.edge_real.proofs.Places.{is_at, is_absent, some_slot, count_at, return_here, return_taken, return_others, return_named}
use Rattle.edge_real.proofs.slots.set_in.Goals as goal

pub unreachable-requires : goal.unreachable-requires
unreachable-requires g c =
    let none = is_absent _ _ _ _ c.deref.ensures.value c.as_bytes.ensures.same c.in-None.ensures.at in
    let e : false ≡ true = sym (ap out_in none) ∙ c.requires in
    search rules

pub returns-clause-is_in : goal.returns-clause-is_in
returns-clause-is_in g c = return_here _ _ _ _ (is_at _ _ _ _ _ c.deref.ensures.value c.as_bytes.ensures.same c.in-Some.ensures.at)
    some_slot (c.return_at.ensures.kept some_slot)

pub returns-clause-taken : goal.returns-clause-taken
returns-clause-taken g c = return_taken _ _ _ _ (is_at _ _ _ _ _ c.deref.ensures.value c.as_bytes.ensures.same c.in-Some.ensures.at)
    some_slot (c.return_at.ensures.kept some_slot)

pub returns-clause-rose : goal.returns-clause-rose
returns-clause-rose g c = c.return_at.ensures.rose some_slot ∙ ap (λ (k : ℕ). c.args.disk.faults - k)
    (count_at _ c.args.slots.now.items _ _ (is_at _ _ _ _ _ c.deref.ensures.value c.as_bytes.ensures.same c.in-Some.ensures.at) some_slot)

pub returns-clause-others : goal.returns-clause-others
returns-clause-others g c = return_others _ _ _ _ (is_at _ _ _ _ _ c.deref.ensures.value c.as_bytes.ensures.same c.in-Some.ensures.at)
    some_slot (c.return_at.ensures.kept some_slot)

pub returns-clause-named : goal.returns-clause-named
returns-clause-named g c = return_named _ _ _ _ (is_at _ _ _ _ _ c.deref.ensures.value c.as_bytes.ensures.same c.in-Some.ensures.at)
    some_slot (c.return_at.ensures.kept some_slot)
