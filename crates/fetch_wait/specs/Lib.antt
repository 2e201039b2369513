-- Calls: what calls of a watch do to it, and what it tells of them. Polls: the calls of a poll, by what it gives; a wait.
pub mod Calls
pub mod Polls
