-- Crates above cite `ReadValues` alone.

-- what the table of types has
pub mod Facts
-- one reading after another
pub mod Readings
-- that stored values lie inside, and attributes one behind the other
pub mod Places
-- the walk over the columns
pub mod Walks
-- the elements of an array, one by one
pub mod Elements
-- the product of an array's dimensions, as far as a word holds it
pub mod Products
-- the values of needed columns, one by one
pub mod Needed
-- the ranges of numbers of so many bytes
pub mod Ranges
-- the content of a stored value
pub mod Contents
-- that what is read is a value of its type: what is no array, the elements of one, and the value of a column
pub mod Scalars
pub mod ArrayElements
pub mod ColumnValues
-- what is read of several columns: crates above cite `as_many`, `one_read` and `is_key_value`
pub mod ReadValues
