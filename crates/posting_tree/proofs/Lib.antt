-- lists that are joined
pub mod Lists
-- bytes that stay in front of others
pub mod Fronts
-- numbers in bytes of seven bits
pub mod Varbytes
-- the number at the front of bytes
pub mod ReadVarbytes
-- deltas to the end of bytes
pub mod ReadDeltas
-- segments at the front of bytes
pub mod Heads
-- segments to the end of bytes
pub mod ReadSegments
-- pages of a posting tree as they are put
pub mod DataWrites
-- segments as they are put
pub mod Segments
-- the deltas of pointers that ascend
pub mod Deltas
-- a level of pages on consecutive blocks
pub mod LevelSteps
-- the leaves of a tree
pub mod LeafSteps
-- levels above the leaves
pub mod InnerSteps
-- a tree, level by level
pub mod TreeSteps
-- the reading of trees: cited by the crates above
pub mod TreeReading
-- the reading of posting trees: cited by the crates above
pub mod PostingReading
-- bytes are of one list
pub mod OneList
