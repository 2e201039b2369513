-- What the readers of a cursor answer, beside what reading gives (this project's own).
-- For example `00` is no string, which is refused at 0, and so are the bytes `02 e9`, which aren't UTF-8.
use Rattle.std.specs.Prelude.{◌≡◌, Result, Ok, Err}
use Rattle.std.specs.Result.{IsOk}
use Rattle.flex_fields.specs.declared.fault.WireFault.{WireFault}
use Rattle.flex_fields.specs.declared.fault.WireFault.TheVariants.{NoMemory}
use Rattle.flex_fields.specs.Reading.{At}

-- the fault is that of reading, unless memory ran out
abbrev pub Fails : {Y : Type 0} → WireFault → Result Y WireFault → Type 0
Fails NoMemory read = Unit {0}
Fails f read = read ≡ Err f

-- what was returned, seen by `view`, is what reading gives, unless memory ran out
abbrev pub Gives : {X Y : Type 0} → (X → Y) → Result X WireFault → Result Y WireFault → Type 0
Gives view (Ok x) read = read ≡ Ok (view x)
Gives view (Err e) read = Fails e read

-- The value and where the cursor stands after it are those of reading; a refusal leaves the cursor as it was.
abbrev pub Reads : {X : Type 0} → At → At → Result X WireFault → Result (X × At) WireFault → Type 0
Reads old new (Ok x) read = read ≡ Ok (x, new)
Reads old new (Err e) read = Fails e read × (new ≡ old)

-- The same of a structure; after a refusal nothing is said of the cursor.
abbrev pub Moves : {X : Type 0} → At → Result X WireFault → Result (X × At) WireFault → Type 0
Moves new (Ok x) read = read ≡ Ok (x, new)
Moves new (Err e) read = Fails e read

abbrev pub IsOfBytes : WireFault → Type 0
IsOfBytes NoMemory = ⊥
IsOfBytes f = Unit {0}

-- the answer isn't want of memory
abbrev pub TakesNoMemory : {X : Type 0} → Result X WireFault → Type 0
TakesNoMemory (Ok x) = Unit {0}
TakesNoMemory (Err e) = IsOfBytes e

-- the fault, where it is want of memory, comes only where reading gives a value
abbrev pub IsMemoryFor : {Y : Type 0} → WireFault → Result Y WireFault → Type 0
IsMemoryFor NoMemory read = IsOk read
IsMemoryFor f read = Unit {0}

-- the answer is want of memory only where reading gives a value
abbrev pub TakesMemoryFor : {X Y : Type 0} → Result X WireFault → Result Y WireFault → Type 0
TakesMemoryFor (Ok x) read = Unit {0}
TakesMemoryFor (Err e) read = IsMemoryFor e read

-- a place alone, as a reading of no value
abbrev pub no_value : Result At WireFault → Result (Unit {0} × At) WireFault
no_value (Ok at) = Ok (tt, at)
no_value (Err e) = Err e
