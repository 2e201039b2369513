-- Pairs: two contents together. Sides: a store by its live journal and the other one. Ends: where a journal ends.
-- Trying: a checkpoint that is tried. Made, Beside: a write behind a checkpoint, or without one. Alone: either by
-- itself. Noted: frames that are handed over. Opened,
-- Arming: a store that is opened, or armed.
pub mod Pairs
pub mod Ends
pub mod Sides
pub mod Made
pub mod Trying
pub mod Beside
pub mod Alone
pub mod Noted
pub mod Opened
pub mod Arming
