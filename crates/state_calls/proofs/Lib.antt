-- StateTalked: each partition of a state call is told by its own part. Steps: loops that map what they take.
pub mod StateTalked
pub mod Steps
