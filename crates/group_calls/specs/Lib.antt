pub mod Members
pub mod MembersTold
pub mod Listing
