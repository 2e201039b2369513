-- Puts: what is written of a client id.
pub mod Puts
