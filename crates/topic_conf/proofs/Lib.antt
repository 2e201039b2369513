-- Lists: the front topic and the others, and each partition's disks. Shards: the numbers of shards.
-- Partitions: the partition of a shard, and its shard by the topic's id and name. Counting: looking a shard's number up, one
-- topic further.
pub mod Lists
pub mod Shards
pub mod Partitions
pub mod Counting
