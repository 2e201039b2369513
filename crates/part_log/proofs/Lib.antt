-- Parts: parts of a list, and of a buffer. Frames: what a frame says of its batch, and its bounds. Rising: logs that grow by a batch.
-- Writes: writes one after another, and the log to which they lead. Kept: the frames that have a batch. Ending: where a journal ends.
-- Keeping: from the journal's frames to the log. Indexing: an index as a log. Holding: an index over a journal, through what happens to it. Noting: what a reader knows of the
-- frames so far. FrameReads: damage, and that a content is read one way. Opening: a log that was opened. Placing: the offsets of a batch at
-- its place. Refusing: which refusal comes. Adding: a call that adds a batch. Stepping: a write as a step of the shard. Looking: a log that
-- was only looked at.
pub mod Parts
pub mod Frames
pub mod Rising
pub mod Writes
pub mod Kept
pub mod Ending
pub mod Keeping
pub mod Indexing
pub mod Holding
pub mod Noting
pub mod FrameReads
pub mod Opening
pub mod Placing
pub mod Refusing
pub mod Adding
pub mod Stepping
pub mod Looking
