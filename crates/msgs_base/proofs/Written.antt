-- What was put of the fields was put of the whole; what was there stands before a field that may have no bytes.
use Rattle.std.proofs.Common.{ℕ, Bool, List, ◌∙◌, length, take, ap, refl}
use Rattle.std.specs.Prelude.{◌≡◌, true, Result, Ok, Err, OnOk, OnErr}
use Rattle.std.proofs.lemmas.List.{take_at}
use Rattle.flex_fields.specs.declared.version.Version.{Version}
use Rattle.flex_fields.specs.Formats.{Shape, StartsWith}
use Rattle.flex_fields.specs.Versions.{Schema, Field, FieldTells, Tells, WritesEnd, stands_where, structure_of, where_bytes}
use Rattle.flex_fields.proofs.Told.{structure_tells}

pub starts_where : {A X E : Type 0} (there : Bool) (s : Schema A) (a b : List ℕ) (x : A) (result : Result X E)
    → OnOk result ((absent : A) → FieldTells (stands_where there absent s) a b x) → OnErr result (StartsWith a b) → StartsWith a b
starts_where there s a b x (Ok y) ok err = ap (take (length a)) (ok x).appended ∙ take_at a (where_bytes there s.format.bytes x) (length a) refl
starts_where there s a b x (Err e) ok err = err

pub structure_put : {X E S T Absent : Type 0} (v : Version) (shape : Shape S T) (f : Absent → Field T) (absent : Absent)
    (solid : (f absent).solid ≡ true) (a c : List ℕ) (s : S) (result : Result X E)
    → OnOk result ((b : List ℕ) × ((other : Absent) → FieldTells (f other) a b (shape.parts s)) × WritesEnd v.flexible b c)
    → OnOk result (Tells (structure_of v shape (f absent) solid) a c s)
structure_put v shape f absent solid a c s (Ok x) w = structure_tells v shape (f absent) solid (w.1 absent) w.2
structure_put v shape f absent solid a c s (Err e) w = tt
