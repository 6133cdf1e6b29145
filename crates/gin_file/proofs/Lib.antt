-- Cited by gin_pack: that tuples and segments have their sizes, the meta page's length, and the special space's.
-- the special space of a GIN page
pub mod SpecialSpaces
-- the tuples of entries
pub mod EntryTuples
-- the writes of the meta page
pub mod MetaWrites
-- the segment at the front of bytes
pub mod SegmentFronts
-- the entry at the front of a tuple
pub mod TupleFronts
-- what a tuple says
pub mod EntryItems
-- that it says one thing
mod OneItem
-- that a file has one map
mod OneMap
