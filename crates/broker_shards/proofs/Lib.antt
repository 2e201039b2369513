-- Telling: what can be told of runs and grants. Parting: calls on a partition as acts. Finding: what a crash within one finds. Legal: the last act of a legal history.
pub mod Telling
pub mod Parting
pub mod Finding
pub mod Legal
