-- Splits: places in lists. Indexes: the index of runs, and what a run that comes, goes or changes leaves of it. Counting: what searches find.
-- Cuts and Ranges: a range that is taken out of runs. Joins: a run that is put behind others, and joined. Dues: the least offset that is due.
pub mod Splits
pub mod Indexes
pub mod Counting
pub mod Cuts
pub mod Ranges
pub mod Joins
pub mod Dues
