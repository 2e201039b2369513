-- Matching: which step a tag names, and which stands behind which.
pub mod Matching
-- Moves: what goes next.
pub mod Moves
-- Telling: the events of a session.
pub mod Telling
-- Merges: what a merge gives.
pub mod Merges
-- Waiting: links that wait for each other.
pub mod Waiting
-- Readiness: which links' steps may go.
pub mod Readiness
-- Sightings: which steps tags have named so far.
pub mod Sightings
-- Outcomes: what comes of links and tapes.
pub mod Outcomes
