-- FilledBy: what answers make of entries, thing by thing. OffsetsOwn: each partition of a ListOffsets is told by its own log.
-- GroupRows: the rows of a group stand in front of those of the others. TablesOwn: each partition of a DescribeShareGroupOffsets is told
-- by its own shard.
pub mod FilledBy
pub mod OffsetsOwn
pub mod GroupRows
pub mod TablesOwn
