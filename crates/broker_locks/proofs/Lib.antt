-- Places: one pass of several acts. Lines: rows of passes. Turns: expiries one after the other. Exclusives: the locks of a history. Moves: histories
-- of shards, state by state. Standing: the states of all shards for which disks stand that are put back. Closings: locks that are closed, and disks
-- that are put back. Openings: locks around the shards of a broker that was opened. Whole: a lock for each hosted partition. Waits: glances
-- of a fetch that waits.
pub mod Places
pub mod Lines
pub mod Turns
pub mod Exclusives
pub mod Moves
pub mod Standing
pub mod Closings
pub mod Openings
pub mod Whole
pub mod Waits
