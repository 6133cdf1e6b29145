-- what is spooled, as records are put and runs begin and end
pub mod Spooling
-- the records of an array, as they are put
pub mod Gathering
-- a run takes the entries of columns' values; crates above cite it
pub mod Storable
