pub mod Ends
pub mod Consuming
pub mod Turns
