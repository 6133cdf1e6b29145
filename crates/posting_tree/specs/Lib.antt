-- Reading order: lists of pointers as bytes, trees of pages and their reading, then the trees of such lists.

-- segments of row pointers
pub mod Segments
-- trees of pages in levels
pub mod Levels
-- the reading of such trees from a file
pub mod Reading
-- the special space of a page of a GIN index
pub mod Special
-- posting trees
pub mod PostingTree
-- what the passes over pointers keep
pub mod Pass
-- what the building of a posting tree keeps
pub mod Building
-- what holds of these, whatever the items are
pub mod Laws
