-- Hearing: what the group link does with a frame. Standing: what a consumer stands for behind each of its calls. Locating: what is
-- read with places is what is read without them. Walking: the batches of a partition, from the first one on. Covering: the offsets that
-- they cover. Judging: the partitions of a reply, from the first one on. Telling: a reply tells one
-- thing. Reading: the records of the batches, from the first one on. Promising: what a consumer keeps to over a whole trace. Bounding:
-- how many lines it hands out. Parting: each offset is acknowledged once in a request.
pub mod Hearing
pub mod Standing
pub mod Locating
pub mod Walking
pub mod Covering
pub mod Judging
pub mod Telling
pub mod Reading
pub mod Dealing
pub mod Outsiding
pub mod Recording
pub mod Delivering
pub mod Promising
pub mod Bounding
pub mod Parting
