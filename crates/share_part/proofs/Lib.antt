-- Slotting: the slots of a log. Granting: the grants of what is taken. Gathering: what a walk takes, slot by slot.
-- Seeing: the states of a store. Looked: batches that were read. Failing: calls of both state disks. Visiting: what
-- follows acknowledgements as a step of the shard. Unreads: a fetch whose batches couldn't be read. Storage: acts that
-- are stored. Acked: acknowledgements. Within: moments of a write. Freeing: releases. Ordered, Expiries, Expired:
-- expiries.
pub mod Slotting
pub mod Granting
pub mod Gathering
pub mod Walking
pub mod Laying
pub mod Holdings
pub mod Appending
pub mod Mapping
pub mod Seeing
pub mod Producing
pub mod Reaching
pub mod Standing
pub mod Raised
pub mod Leavings
pub mod Deleting
pub mod Opens
pub mod Planning
pub mod Staying
pub mod Foreseen
pub mod Holding
pub mod Looked
pub mod Failing
pub mod Visiting
pub mod Unreads
pub mod Advancing
pub mod Fewer
pub mod Doing
pub mod Naming
pub mod Parting
pub mod Letting
pub mod Spares
pub mod Within
pub mod Keeping
pub mod Sequel
pub mod Verdicts
pub mod Writing
pub mod Settlement
pub mod Stepping
pub mod Counting
pub mod Releases
pub mod Storage
pub mod Freeing
pub mod Ordered
pub mod Expiries
pub mod Expired
pub mod Acked
pub mod Ahead
pub mod Offered
pub mod Described
