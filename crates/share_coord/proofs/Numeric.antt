-- Refusals by numbers, and numbers that are not refused.
use Rattle.std.proofs.Common.{◌≡◌, ◌≢◌, ◌⊎◌, inl, inr, Result, Ok, Err, IfErr, sym, ap, ◌∙◌, subst, ℕ, ℤ, pos, negsuc, List, Option, Some, None, Bool, true, false, int_lt, ◌||◌, not, if◌then◌else◌}
use Rattle.std.specs.List.{list_all}
use Rattle.share_model.specs.declared.fault.StoreFault.{StoreFault}
use Rattle.share_model.specs.declared.run.Run.{Run}
use Rattle.share_model.specs.ShareStates.{is_writable}
use Rattle.share_coord.specs.Calls.{fenced_state, fenced_init, fenced_write, init_refusal, write_refusal, Causes}
use Rattle.share_coord.specs.declared.fault.CoordFault.{CoordFault}
use Rattle.share_coord.specs.declared.fault.CoordFault.TheVariants.{Invalid, Unknown, FencedLeader, FencedState, TooMany, Store, NoMemory}
use Rattle.share_coord.specs.Parts.{KeptState}
use Rattle.share_coord.proofs.Keys.{some_none}

IsNumeric : CoordFault → Type 0
IsNumeric Invalid = Unit {0}
IsNumeric Unknown = Unit {0}
IsNumeric (FencedLeader n) = Unit {0}
IsNumeric (FencedState n) = Unit {0}
IsNumeric (TooMany n) = Unit {0}
IsNumeric (Store fault) = ⊥
IsNumeric NoMemory = Unit {0}

Numeric : Option CoordFault → Type 0
Numeric None = Unit {0}
Numeric (Some fault) = IsNumeric fault

either : (b : Bool) (x y : Option CoordFault) → Numeric x → Numeric y → Numeric (if b then x else y)
either true x y p q = p
either false x y p q = q

by_state : (kept : KeptState) (epoch : ℤ) → Numeric (fenced_state kept epoch)
unfolding Numeric IsNumeric
by_state kept epoch = either (int_lt epoch kept.view.state_epoch) (Some (FencedState kept.view.state_epoch)) None tt tt

by_init : (known : Option KeptState) (epoch : ℤ) → Numeric (fenced_init known epoch)
unfolding Numeric
by_init None epoch = tt
by_init (Some kept) epoch = by_state kept epoch

by_write : (known : Option KeptState) (state leader : ℤ) → Numeric (fenced_write known state leader)
unfolding Numeric IsNumeric
by_write None state leader = tt
by_write (Some kept) state leader =
    either (int_lt leader kept.view.leader_epoch) (Some (FencedLeader kept.view.leader_epoch)) (fenced_state kept state) tt (by_state kept state)

apart : (refusal : Option CoordFault) (e : CoordFault) → Numeric refusal → refusal ≡ Some e → (fault : StoreFault) → e ≢ Store fault
unfolding Numeric IsNumeric
apart refusal e numeric is fault at = subst Numeric (is ∙ ap Some at) numeric

pub init_apart : (known : Option KeptState) (epoch start : ℤ) (e : CoordFault) → init_refusal known epoch start ≡ Some e → (fault : StoreFault) → e ≢ Store fault
unfolding Numeric IsNumeric
init_apart known epoch start e is = apart (init_refusal known epoch start) e
    (either (int_lt epoch (pos 0) || int_lt start (negsuc 0)) (Some Invalid) (fenced_init known epoch) tt (by_init known epoch)) is

pub write_apart : (known : Option KeptState) (state leader start : ℤ) (runs : List Run) (e : CoordFault) → write_refusal known state leader start runs ≡ Some e
    → (fault : StoreFault) → e ≢ Store fault
unfolding Numeric IsNumeric
write_apart known state leader start runs e is = apart (write_refusal known state leader start runs) e
    (either ((int_lt state (pos 0) || int_lt leader (pos 0)) || (int_lt start (negsuc 0) || not (list_all is_writable runs))) (Some Invalid)
    (fenced_write known state leader) tt (by_write known state leader)) is

pub memory_apart : (fault : StoreFault) → NoMemory ≢ Store fault
unfolding IsNumeric
memory_apart fault at = subst IsNumeric at tt

pub many_apart : (n : ℕ) (fault : StoreFault) → TooMany n ≢ Store fault
unfolding IsNumeric
many_apart n fault at = subst IsNumeric at tt

pub plan_apart : (e : CoordFault) → (e ≡ NoMemory) ⊎ ((n : ℕ) × (e ≡ TooMany n)) → (fault : StoreFault) → e ≢ Store fault
plan_apart e (inl at) fault is = memory_apart fault (sym at ∙ is)
plan_apart e (inr at) fault is = many_apart at.0 fault (sym at.1 ∙ is)

pub unknown_apart : (fault : StoreFault) → Unknown ≢ Store fault
unfolding IsNumeric
unknown_apart fault at = subst IsNumeric at tt

-- what comes from the store alone comes where the numbers are not refused
pub causes_weaker : (refusal : Option CoordFault) (Many : ℕ → Type 0) → refusal ≡ None → (e : CoordFault) → Causes None (λ _. ⊥) e → Causes refusal Many e
causes_weaker refusal Many none Invalid h = absurd (some_none Invalid (sym h))
causes_weaker refusal Many none Unknown h = absurd (some_none Unknown (sym h))
causes_weaker refusal Many none (FencedLeader n) h = absurd (some_none (FencedLeader n) (sym h))
causes_weaker refusal Many none (FencedState n) h = absurd (some_none (FencedState n) (sym h))
causes_weaker refusal Many none (TooMany n) h = absurd h.1
causes_weaker refusal Many none (Store fault) h = none
causes_weaker refusal Many none NoMemory h = none

pub causes_in : {T : Type 0} (r : Result T CoordFault) (refusal : Option CoordFault) (Many : ℕ → Type 0) → refusal ≡ None
    → IfErr r (Causes None (λ _. ⊥)) → IfErr r (Causes refusal Many)
causes_in (Ok x) refusal Many none h = tt
causes_in (Err e) refusal Many none h = causes_weaker refusal Many none e h

-- ---- a refusal by numbers has its cause

abbrev IsByNumbers : CoordFault → Type 0
IsByNumbers Invalid = Unit {0}
IsByNumbers Unknown = Unit {0}
IsByNumbers (FencedLeader n) = Unit {0}
IsByNumbers (FencedState n) = Unit {0}
IsByNumbers (TooMany n) = ⊥
IsByNumbers (Store fault) = ⊥
IsByNumbers NoMemory = ⊥

abbrev ByNumbers : Option CoordFault → Type 0
ByNumbers None = Unit {0}
ByNumbers (Some fault) = IsByNumbers fault

either_by : (b : Bool) (x y : Option CoordFault) → ByNumbers x → ByNumbers y → ByNumbers (if b then x else y)
either_by true x y p q = p
either_by false x y p q = q

known_by_numbers : (known : Option KeptState) (state leader : ℤ) → ByNumbers (fenced_write known state leader)
known_by_numbers None state leader = tt
known_by_numbers (Some kept) state leader =
    either_by (int_lt leader kept.view.leader_epoch) (Some (FencedLeader kept.view.leader_epoch)) (fenced_state kept state) tt
    (either_by (int_lt state kept.view.state_epoch) (Some (FencedState kept.view.state_epoch)) None tt tt)

caused : (refusal : Option CoordFault) (Many : ℕ → Type 0) (e : CoordFault) → refusal ≡ Some e → IsByNumbers e → Causes refusal Many e
caused refusal Many Invalid is by = is
caused refusal Many Unknown is by = is
caused refusal Many (FencedLeader n) is by = is
caused refusal Many (FencedState n) is by = is
caused refusal Many (TooMany n) is by = absurd by
caused refusal Many (Store fault) is by = absurd by
caused refusal Many NoMemory is by = absurd by

pub write_caused : (known : Option KeptState) (state leader start : ℤ) (runs : List Run) (Many : ℕ → Type 0) (e : CoordFault)
    → write_refusal known state leader start runs ≡ Some e → Causes (write_refusal known state leader start runs) Many e
write_caused known state leader start runs Many e is = caused (write_refusal known state leader start runs) Many e is
    (subst ByNumbers is (either_by ((int_lt state (pos 0) || int_lt leader (pos 0)) || (int_lt start (negsuc 0) || not (list_all is_writable runs)))
    (Some Invalid) (fenced_write known state leader) tt (known_by_numbers known state leader)))
