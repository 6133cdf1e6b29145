-- Reading order: from an entry to the file.

-- the entries that an index has
pub mod Entry
-- their tuples
pub mod EntryTuple
-- what a tuple says, and which tuples there are
pub mod Item
-- the entry tree
pub mod EntryTree
-- the meta page
pub mod Meta
-- what is read of the file
pub mod Reading
-- what the reading of a tuple keeps
pub mod Pass
-- what holds of all these
pub mod Laws
