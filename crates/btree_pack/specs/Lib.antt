-- Reading order: from a tuple to the file.

-- index tuples
pub mod Tuple
-- the end of a list
pub mod Ends
-- where a page ends
pub mod Break
-- the items of a level, cut into pages
pub mod Pages
-- the levels, from the leaves to the root
pub mod Tower
-- the block numbers of pages
pub mod Births
-- sorted rows in groups, a leaf tuple each
pub mod Groups
-- what tells the pages of a level apart
pub mod Separators
-- the tuples of an index
pub mod Images
-- the items of the leaves
pub mod Leaves
-- the nodes of a tower as pages, and the whole file
pub mod Nodes
-- where the keys of a page lie
pub mod KeyBounds
-- what the pass over sorted items keeps
pub mod Pass
-- what holds of all these
pub mod Laws
