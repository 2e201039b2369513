pub mod Hosts
pub mod Crashes
pub mod Acts
pub mod Histories
pub mod Answering
