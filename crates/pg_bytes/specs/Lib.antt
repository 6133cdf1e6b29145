-- Reading order: what a page file is made of, from bytes up.

-- parts of a list of bytes
pub mod Places
-- little-endian numbers, and sizes rounded up
pub mod Numbers
-- row pointers and line pointers
pub mod Pointers
-- the page's header, and the writes into a page
pub mod PageLayout
-- a page of items as a whole
pub mod ItemPage
-- what is read of a page by its line pointers
pub mod Lines
-- that items are read as they were put
pub mod Laws
-- the blocks of a file
pub mod Blocks
-- the image of an index file
pub mod Image
-- the one fault that is told of many
pub mod LeastFault
