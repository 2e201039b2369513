pub mod Script
pub mod Output
pub mod Lines
pub mod Unread
pub mod Reading
pub mod Writing
pub mod Summary
pub mod Telling
