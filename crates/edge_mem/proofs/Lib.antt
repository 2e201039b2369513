-- Calls: what calls of the disk do to its images. Contents: writes over a content. Fresh: a history in which nothing happened.
-- Marks: a sync's mark at the last step. Slots: the slots of a bay. Sounds: a history's fields after each change.
pub mod Calls
pub mod Contents
pub mod Fresh
pub mod Marks
pub mod Slots
pub mod Sounds
