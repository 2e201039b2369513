-- Reading and spelling: Spells (readers that read just what a spelling writes), Stored (runs), Records (a key and a state),
-- Whole (a record), Loop (runs read one after the other, as a loop does). Writing: Sizes, Appends and Signed.
-- Where bytes are wrong: Begins (how readers fail, and two one behind the other), FieldFaults (fields), RunFaults (runs),
-- RecordFaults (a key and a state), FaultPlaces (a record).
pub mod Loop
pub mod Spells
pub mod Stored
pub mod Records
pub mod Whole
pub mod Begins
pub mod FieldFaults
pub mod RunFaults
pub mod RecordFaults
pub mod FaultPlaces
pub mod Sizes
pub mod Appends
pub mod Signed
