pub mod Frames
pub mod Journals
pub mod Clearing
pub mod Reading
pub mod Visits
pub mod Spares
pub mod Groups
