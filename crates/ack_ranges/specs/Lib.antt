pub mod Batches
pub mod Faults
pub mod Pieces
pub mod Walking
