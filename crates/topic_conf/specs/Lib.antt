pub mod Configs
pub mod Topics
