-- Repeated, Sizes: the batch of a round. Texts: its lines. Adding: acts one after another. Few: how far they count. Writing: the pieces.
pub mod Repeated
pub mod Sizes
pub mod Texts
pub mod Adding
pub mod Few
pub mod Writing
