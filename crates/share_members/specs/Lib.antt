pub mod Topics
pub mod Groups
pub mod Assignments
pub mod Heartbeats
pub mod Expiry
pub mod Shares
pub mod Whole
