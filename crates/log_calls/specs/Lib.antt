pub mod Codes
pub mod Shapes
pub mod Produce
pub mod Delete
pub mod ProduceTalks
pub mod DeleteTalks
