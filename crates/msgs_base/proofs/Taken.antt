-- What was taken of the fields of a structure was taken of the structure.
use Rattle.std.specs.Prelude.{◌≡◌, Result, Ok}
use Rattle.std.proofs.Common.{ap}
use Rattle.flex_fields.specs.declared.fault.WireFault.{WireFault}
use Rattle.flex_fields.specs.Reading.{At, ◌>>=◌}
use Rattle.flex_fields.specs.Cursors.{Fails}
use Rattle.flex_fields.proofs.Repeated.{fails_along}

abbrev made : {S T : Type 0} → (T → S) → Result (T × At) WireFault → Result (S × At) WireFault
made make fields = fields >>= λ y. Ok (make y.0, y.1)

pub structure_taken : {S T : Type 0} (make : T → S) (fields : Result (T × At) WireFault) (x : T × At) → fields ≡ Ok x
    → made make fields ≡ Ok (make x.0, x.1)
structure_taken make fields x e = ap (made make) e

pub structure_refused : {S T : Type 0} (make : T → S) (fields : Result (T × At) WireFault) (fault : WireFault) → Fails fault fields
    → Fails fault (made make fields)
structure_refused make fields fault f = fails_along fault fields (made make fields) (λ g e. ap (made make) e) f
