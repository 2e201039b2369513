-- Which store fault a refusal has.
use Rattle.std.proofs.Common.{◌≡◌, ap, subst, Result, Ok, Err}
use Rattle.share_model.specs.declared.fault.StoreFault.{StoreFault}
use Rattle.share_model.specs.declared.fault.StoreFault.TheVariants.{Device}
use Rattle.share_coord.specs.declared.fault.CoordFault.{CoordFault}
use Rattle.share_coord.specs.declared.fault.CoordFault.TheVariants.{Invalid, Unknown, FencedLeader, FencedState, TooMany, Store, NoMemory}

fault_in : CoordFault → StoreFault
fault_in Invalid = Device
fault_in Unknown = Device
fault_in (FencedLeader n) = Device
fault_in (FencedState n) = Device
fault_in (TooMany n) = Device
fault_in (Store fault) = fault
fault_in NoMemory = Device

refused : {T : Type 0} → Result T CoordFault → StoreFault
refused (Ok x) = Device
refused (Err e) = fault_in e

pub same_fault : {T : Type 0} (f g : StoreFault) → ◌≡◌ {A = Result T CoordFault} (Err (Store f)) (Err (Store g)) → f ≡ g
unfolding refused fault_in
same_fault f g e = ap refused e

is_ok : {T E : Type 0} → Result T E → Type 0
is_ok (Ok x) = Unit {0}
is_ok (Err e) = ⊥

pub ok_is_no_err : {T E : Type 0} (x : T) (e : E) → ◌≡◌ {A = Result T E} (Ok x) (Err e) → ⊥
unfolding is_ok
ok_is_no_err x e is = subst is_ok is tt

either : {T E : Type 0} → E → Result T E → E
either d (Ok x) = d
either d (Err e) = e

pub err_of : {T E : Type 0} (e f : E) → ◌≡◌ {A = Result T E} (Err e) (Err f) → e ≡ f
unfolding either
err_of e f is = ap (either e) is
