pub mod Session
pub mod Frames
pub mod Scripts
pub mod Bounds
