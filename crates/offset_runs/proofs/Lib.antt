-- Joins, Cuts and Counts: runs put together, cut at an offset, and found by a search. Places: where a list of runs is cut.
-- Puts, Pushes and Shifts: a range put over runs. Merges: one list of runs laid over another. Tallies: complete rows, counted.
pub mod Joins
pub mod Cuts
pub mod Counts
pub mod Places
pub mod Puts
pub mod Pushes
pub mod Shifts
pub mod Merges
pub mod Tallies
