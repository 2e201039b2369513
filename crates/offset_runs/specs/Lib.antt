pub mod Changes
pub mod Complete
pub mod Parts
