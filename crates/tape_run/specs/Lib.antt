-- Recordings: what a server's run is by its histories and its links' tapes.
pub mod Recordings
-- Sessions: the run that a session is.
pub mod Sessions
