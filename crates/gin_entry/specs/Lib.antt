-- entries, and those of a value
pub mod Entries
-- the order of entries
pub mod EntryOrder
-- how large the tuple of an entry is
pub mod EntrySize
-- the map from entries to rows
pub mod EntryMap
-- what holds of all these
pub mod Laws
