-- Frames: requests and replies as they go over a link. Traces: the calls of a consumer, and what the newest of them says.
-- Heartbeats: the rules of the group link. Groups: what its code keeps. Rules: which answers the rules allow. Cores: a consumer
-- that stands for a trace.
pub mod Frames
pub mod Traces
pub mod Heartbeats
pub mod Groups
pub mod Rules
pub mod Cores
pub mod Locating
pub mod Grants
pub mod Spans
pub mod Fetches
pub mod Records
pub mod Deliveries
pub mod Readers
pub mod Partitions
pub mod DataLinks
pub mod Kept
pub mod Promises
