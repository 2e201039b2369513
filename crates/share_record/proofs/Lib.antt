-- Recorded: what a recorder keeps over a history.
pub mod Recorded
