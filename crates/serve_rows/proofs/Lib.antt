-- Passes: a row of passes is of its locks.
pub mod Passes
