-- Stepping: what a step of a client means to the map of all clients. Restarting, Reopens: restarts of foreign state, and of partitions.
-- Flats, Slots: the three disks of each slot by name. Reaching: how far the images of logs' disks reach. Parting, Calling: calls on a
-- partition, and on one slot of many. Leading: parts that shards do, and what they lead to. Arming, Losing: armed faults and power losses.
-- Telling, Clients: what is told of faults, and what a client's step leads to. Events: events.
pub mod Stepping
pub mod Restarting
pub mod Reopens
pub mod Flats
pub mod Slots
pub mod Reaching
pub mod Parting
pub mod Calling
pub mod Leading
pub mod Arming
pub mod Losing
pub mod Telling
pub mod Clients
pub mod Events
