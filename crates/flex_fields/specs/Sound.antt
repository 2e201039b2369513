-- Proofs that each reading function reads just what stands for a value. There is nothing to believe here.
pub mod Counted
pub mod Fields
pub mod Limits
pub mod Old
pub mod Parts
pub mod Readers
