-- Taken, Written: what was taken and put of the fields was taken and put of the whole. Spelled: texts that are kept as a message spells them.
-- Alike: the reply that tells one coordinator of all keys.
pub mod Alike
pub mod Spelled
pub mod Taken
pub mod Written
