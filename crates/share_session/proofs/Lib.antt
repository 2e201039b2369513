-- Lists: on lists and folds. Twice: on partitions that stand twice. Placed: on the place of a session. Once: on hosted partitions of
-- which none stands twice. Asked: on the plan of a request. Left: on acknowledgements that are left. Few: at most 100 sessions. Kept: the laws.
-- Undone: releases that are done one by one.
pub mod Lists
pub mod Twice
pub mod Placed
pub mod Once
pub mod Asked
pub mod Left
pub mod Few
pub mod Kept
pub mod Undone
