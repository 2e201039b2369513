-- Lookups: what a look-up in runs gives. OneList: a look-up has one canonical list of runs.
pub mod Lookups
pub mod OneList
