use Rattle.edge_real.proofs.Places.{is_at, some_slot, take_same, take_named, take_kept_named}
use Rattle.edge_real.proofs.slots.take_kept.Goals as goal

pub returns-in-Some-clause-is_named : goal.returns-in-Some-clause-is_named
returns-in-Some-clause-is_named g c = take_named _ _ _ _ (is_at _ _ _ _ _ c.deref.ensures.value c.as_bytes.ensures.same c.in-Some.ensures.at)
    some_slot _ (c.take_at.ensures some_slot)

pub returns-in-Some-clause-same : goal.returns-in-Some-clause-same
returns-in-Some-clause-same g c = take_same _ _ _ _ (is_at _ _ _ _ _ c.deref.ensures.value c.as_bytes.ensures.same c.in-Some.ensures.at)
    some_slot _ (c.take_at.ensures some_slot)

pub returns-in-Some-clause-named : goal.returns-in-Some-clause-named
returns-in-Some-clause-named g c = take_kept_named _ _ _ _ (is_at _ _ _ _ _ c.deref.ensures.value c.as_bytes.ensures.same c.in-Some.ensures.at)
    some_slot _ (c.take_at.ensures some_slot)
