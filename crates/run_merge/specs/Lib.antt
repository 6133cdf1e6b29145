-- Reading order: what a merge comes to; how its range is cut; then what the merge keeps on its way.

-- the records of tapes, and the one list of them in order
pub mod Sorted
-- a merge under way, and what it gives
pub mod Merging
-- samples, cuts and the parts between them
pub mod Cutting
-- the heads of the runs, and their heap
pub mod Heads
-- what the passes over runs keep
pub mod Pass
-- a merge, wherever its records come from
pub mod Source
-- what holds of these, whatever the records are
pub mod Laws
