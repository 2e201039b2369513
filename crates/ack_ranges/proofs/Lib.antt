-- Looks: what pieces say of an offset. OneList: a look-up has one list of pieces. Joins: spans that are joined. Spans: the spans of batches.
-- Faults: first faults.
pub mod Looks
pub mod OneList
pub mod Joins
pub mod Spans
pub mod Faults
