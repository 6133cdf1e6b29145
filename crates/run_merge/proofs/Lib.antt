-- what stays when the items of a list change places
pub mod Moves
-- ranges of a list
pub mod Ranges
-- order bytes are bytes
pub mod HeadBytes
-- heads and their heap
pub mod Heaping
-- places in a run
pub mod Finding
-- the heads of several runs
pub mod Gathering
-- ascending lists
pub mod Ascending
-- the record of a heap's first head
pub mod Firsts
-- records that were merged
pub mod Merging
-- records in their order
pub mod Sorting
-- the parts between cuts
pub mod Parts
-- runs that stand in order
pub mod InOrder
-- samples and cuts
pub mod Shares
-- records of one short key, as tests have them
pub mod Rows
-- cuts, which are normalised keys; crates above cite `equal_together` and `keys_apart`
pub mod KeyCuts
