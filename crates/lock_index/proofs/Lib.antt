-- Ordering: pairs of lock end and first offset in order, and a pair that is put in or taken away. Dues: the least first offset that has
-- ended. Orders: what comparisons and tests of offsets say. Finding, Edits and Changes: look-ups in what is held, and what a hold that is put
-- in and a range that is taken away leave, for windows and their callers. Looks: what runs hold. OneList: what is held has one run list.
pub mod Ordering
pub mod Dues
pub mod Orders
pub mod Finding
pub mod Edits
pub mod Changes
pub mod Looks
pub mod OneList
