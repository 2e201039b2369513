-- Pieces: pieces of a run. Moving: a call of a shard alone is one among the others. Connecting: what happens to one connection.
-- Steadying: a step in which nothing fails on a device is one at counts that stand.
-- Owning: no disk is of two shards. Going: events as pieces of a run. Entering: what is left of each history. Merging: a merge, move by move.
-- Opening: how links open, and the whole session.
pub mod Pieces
pub mod Moving
pub mod Connecting
pub mod Owning
pub mod Steadying
pub mod Going
pub mod Entering
pub mod Merging
pub mod Opening
