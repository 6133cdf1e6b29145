-- one value as it stands in the data
pub mod Datum
-- the values of several columns
pub mod Data
-- what a tuple's header says of its values
pub mod Nulls
-- the values that bytes are the data of
pub mod Reading
-- a value where it stands
pub mod Fetch
-- the values of a tuple where they stand
pub mod InPlace
-- what holds of all these
pub mod Laws
