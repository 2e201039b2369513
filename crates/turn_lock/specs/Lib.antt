pub mod Asking
pub mod Rule
pub mod Turns
