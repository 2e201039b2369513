-- Running: runs that are written one by one.
pub mod Running
