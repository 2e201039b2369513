-- ProduceTalked: each partition of a Produce is told by its own log. DeleteTalked: so is each of a DeleteRecords.
pub mod ProduceTalked
pub mod DeleteTalked
