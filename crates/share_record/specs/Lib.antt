-- Tapes: a shard with a tape of what it is asked.
pub mod Tapes
