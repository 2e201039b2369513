pub mod Codes
pub mod Shards
pub mod Once
