-- Talked: a request in hand keeps to its talk, and a talk says what its entries mean.
-- Grouped: the same of entries in groups, as partitions under topics, where the call keeps what it has; rows in groups again.
-- Steps: one more row is taken from the front of a list, for the loop of `next_rows`.
pub mod Talked
pub mod Grouped
pub mod Steps
