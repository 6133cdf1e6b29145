-- Other crates cite `same_outcome`, `same_sorted` and `no_first_fault` of Determined and `neighbours_tell` of
-- Neighbours. The rest is this crate's own.

-- a heap has one list of rows of an index
pub mod SameRows
-- the columns that an index needs
pub mod Needed
-- the values of its columns, out of those of the needed ones
pub mod PickedValues
-- its rows have different row pointers
pub mod Apart
-- the rows of a sound heap are rows of the index
pub mod IndexRecords
-- the entries of rows of arrays
pub mod EntryRows
-- rows that have an entry that is too large
pub mod WideEntries
-- the records of the entries of a heap's rows
pub mod EntryRecords
-- where the entries of an index lead
pub mod EntryLeads
-- how an item is read
pub mod Reading
-- what rows of a heap are read as
pub mod ReadRows
-- lists by their places
pub mod Lists
-- what summaries tell of a range
pub mod RangeSummaries
-- what workers know of ranges
pub mod Holding
-- how workers' ranges become those of the heap
pub mod UnitedRanges
-- how a worker's ranges grow
pub mod RangeTallies
-- the tuples of ranges have room
pub mod Fitting
-- what workers hold
pub mod HeldRows
-- a row goes into a sink
pub mod Sinking
-- the rows of a page go into a sink
pub mod PageRows
-- its blocks come to one thing
pub mod Determined
-- neighbours tell of clashes
pub mod Neighbours
-- rows can be put in order
pub mod InsertedRows
-- what parts have become
pub mod MadeParts
-- the parts of rows, one behind the other
pub mod PartRows
-- runs of leaf tuples of the parts
pub mod LeafRuns
-- rows on their way into a packer
pub mod PackerRows
-- lists that have each number as often
pub mod EqualCounts
-- legal claims share out the rows
pub mod SharedRows
-- what a scan left with the workers
pub mod ScannedRows
-- runs of postings of the parts
pub mod PostingRuns
-- what a worker has, block by block
pub mod WorkerBlocks
-- and claim by claim
pub mod WorkerClaims
-- what workers have together
pub mod Teams
-- what all of them come to at the end
pub mod ScanOutcomes
-- what is packed of it
pub mod Packed
