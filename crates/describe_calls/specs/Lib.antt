pub mod Offsets
pub mod Filled
pub mod OffsetsTold
pub mod Groups
pub mod GroupsTold
pub mod GroupOffsets
pub mod GroupOffsetsTold
