pub mod Client
pub mod ClientRead
pub mod Heads
pub mod InTwo
