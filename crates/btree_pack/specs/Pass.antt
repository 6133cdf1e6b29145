-- What the pass over sorted items keeps.

-- one open page a level
pub mod Open
-- the pages in the order in which they are born
pub mod History
-- the open pages as bytes
pub mod Packing
-- what the packer keeps once items came
pub mod Packed
-- the nodes in the order in which they are finished
pub mod Emission
-- tuples in one buffer
pub mod Buffer
-- a page while its tuples are put
pub mod Begun
-- the open tower of the program
pub mod Sight
-- what holds of the packing of leaf items
pub mod Finish
-- groups of rows
pub mod Grouped
-- one row more
pub mod Rows
-- what the packer keeps once rows were put
pub mod Taken
-- a packer once rows were put
pub mod Put
-- leaf tuples apart from the pages
pub mod Run
-- leaf tuples that join the open leaf
pub mod Joining
-- a writer of leaf tuples once rows were put
pub mod Written
-- a packer of runs once runs were added
pub mod Added
