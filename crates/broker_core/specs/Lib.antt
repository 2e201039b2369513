pub mod Causes
pub mod PartCalls
pub mod Calls
pub mod Restarts
pub mod Foreign
pub mod Cores
