-- Places: lists of which one entry changes, and look-ups by name. Images: what an opening leaves of a disk's images. Opening, OpeningParts:
-- openings of foreign state, and of partitions. Naming: names of disks. Taking, Partitions, Pairs, Starting: disks that are taken from a bay
-- and put back, and what a start makes of them.
pub mod Places
pub mod Images
pub mod Opening
pub mod OpeningParts
pub mod Naming
pub mod Taking
pub mod Partitions
pub mod Pairs
pub mod Starting
