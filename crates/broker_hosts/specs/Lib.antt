pub mod Carried
pub mod Hosts
pub mod Openings
pub mod Bays
pub mod Taking
