pub mod Disks
pub mod Stores
pub mod Writes
pub mod Steps
pub mod Openings
