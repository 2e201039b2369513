-- Xor: laws of sums without carries. Steps: the steps of the division are linear. TableCheck: tables hold the steps of each
-- byte. Bytes: the division of whole bytes. Quotient: the steps give a quotient and the one remainder.
pub mod Xor
pub mod Steps
pub mod TableCheck
pub mod Bytes
pub mod Quotient
