pub mod Parts
pub mod Calls
pub mod Going
pub mod Talks
