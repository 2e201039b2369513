-- A field that was read, as a field of a structure.
use Rattle.std.specs.Prelude.{Result, Ok, Err}
use Rattle.flex_fields.specs.declared.fault.WireFault.{WireFault}
use Rattle.flex_fields.specs.Reading.{At}
use Rattle.flex_fields.specs.Cursors.{Reads, Moves}

pub reads_move : {X : Type 0} (old new : At) (result : Result X WireFault) (read : Result (X × At) WireFault) → Reads old new result read → Moves new result read
reads_move old new (Ok x) read it = it
reads_move old new (Err e) read it = it.0
