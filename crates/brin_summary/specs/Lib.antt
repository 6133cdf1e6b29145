-- Reading order: from rows to the file.

-- the summary of the rows of a range, and summaries joined
pub mod Summary
-- the tuple of a range
pub mod Tuple
-- and as it is read
pub mod Reading
-- the pages
pub mod Page
-- the ranges' tuples on pages, the revmap, and the whole file
pub mod File
-- which range is refused
pub mod Answer
-- how a summary is kept
pub mod Pass
-- what holds of all these
pub mod Laws
