-- Places: the slots of a bay over a folder.
pub mod Places
