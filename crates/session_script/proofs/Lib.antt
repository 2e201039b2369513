-- Words and lines: Cuts (where they are cut), Hexes and Sayings (what they say), Joined (how they are written). The reader:
-- Feeds (line feeds), Takings (what was taken), Refusals (where nothing stands). OneReading: scripts are read in one way.
-- Outcomes: Sums (their numbers), Behind (their lines in a text that waits), Texts (fronts of a text), Tellings (what is told of them).
pub mod Cuts
pub mod Hexes
pub mod Sayings
pub mod Takings
pub mod Feeds
pub mod Refusals
pub mod Joined
pub mod OneReading
pub mod Sums
pub mod Behind
pub mod Texts
pub mod Tellings
