-- the sizes of tuples and of their parts
pub mod Sizes
-- tuples put together from their parts
pub mod Joins
-- how many attributes a pivot keeps
pub mod Keeping
-- a pivot separates its neighbours
pub mod Separation
-- tuples filled up with zeros
pub mod Filling
-- what stands at the front of an index tuple
pub mod TupleFronts
-- the values that are read of it
pub mod TupleReads
-- row pointers one behind the other
pub mod Pointers
-- fronts, sizes and row pointers of a B-tree's tuples
pub mod ItemFronts
-- what they are read as
pub mod ItemReads
-- bytes are one tuple at most
pub mod ItemsApart
-- the same in an index with INCLUDE columns
pub mod IndexItems
