-- Lists: loops that put what they find behind a list. Grouping: rows under their topics. Places: the partition of a shard.
-- Placing: the partitions of a ShareAcknowledge, each with its row or its visit.
-- Acquiring: the visits of a fetch that acquire are told.
-- Replying: the reply to ShareFetch, written from its fields.
-- Elements: each topic with rows has one element of the reply.
-- FetchTalked, AckTalked: each partition is told by its own visit.
pub mod Lists
pub mod Grouping
pub mod Places
pub mod Placing
pub mod FetchTalked
pub mod AckTalked
pub mod Elements
pub mod Replying
pub mod Acquiring
