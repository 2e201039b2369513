pub mod Generations
pub mod Checkpoints
pub mod Spares
pub mod Making
pub mod Standings
