-- Marks: generations and seals of lists of marks, and which journal is live. OneWay: two contents are read in one way.
-- Knowing: what frames say of a journal. Stopping: one that is not made. Writing: a checkpoint, frame by frame.
pub mod Knowing
pub mod Marks
pub mod OneWay
pub mod Stopping
pub mod Writing
