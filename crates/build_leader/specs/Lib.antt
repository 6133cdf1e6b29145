-- Reading order: from the blocks of a heap to what a build of an index comes to.

-- the blocks of a heap
pub mod Blocks
-- the entries of rows of arrays
pub mod Entries
-- the row of an index that a live item is
pub mod IndexRow
-- the faults of blocks, and the rows of an index in them
pub mod HeapRows
-- the blocks and the rows that a worker claims
pub mod Claimed
-- the unique rule
pub mod Unique
-- the ranges of blocks of which a BRIN index tells
pub mod Ranges
-- what the blocks come to for an index
pub mod Outcome
-- how a worker's ranges grow
pub mod Tally
-- how the ranges of workers become those of the heap
pub mod Uniting
-- what the packing of a GIN index asks and gives
pub mod Gin
-- which arrays may have entries that are too large
pub mod WideEntry
-- what workers hold of the rows that they took
pub mod Holding
-- what rows are read by
pub mod Reader
-- what the passes of a scan keep
pub mod Scanning
-- what the calls ask and answer
pub mod Calls
-- what workers have together at the end of a scan
pub mod Teams
-- what holds of all these
pub mod Laws
-- what the merge by ranges keeps
pub mod KeyParts
-- what the pass over sorted rows keeps
pub mod Pass
-- what holds of a GIN index, whatever the rows are
pub mod EntryLaws
-- what workers have of the rows, and the file that is packed of it
pub mod Packing
