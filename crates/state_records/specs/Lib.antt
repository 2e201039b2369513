pub mod States
pub mod Spelling
pub mod Reading
pub mod Faults
