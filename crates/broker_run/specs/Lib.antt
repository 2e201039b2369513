pub mod Moving
pub mod Serving
pub mod Working
pub mod Homes
pub mod Server
