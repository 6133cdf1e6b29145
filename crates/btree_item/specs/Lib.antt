-- index tuples: size, marks, and the bytes up to the data's end
pub mod Tuple
-- the values that are read of an index tuple
pub mod TupleReading
-- plain tuples and posting tuples
pub mod Leaf
-- pivots, and how they stand to rows
pub mod Pivot
-- how many attributes a pivot keeps
pub mod Truncation
-- which tuples a B-tree has, and what they say
pub mod Item
-- what their reading keeps on its way
pub mod Pass
-- what holds of all these
pub mod Laws
