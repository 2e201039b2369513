pub mod Batches
pub mod Starts
pub mod Logs
pub mod Holding
pub mod Shards
