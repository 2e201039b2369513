pub mod Acting
pub mod Batching
pub mod Ops
pub mod Rules
pub mod States
