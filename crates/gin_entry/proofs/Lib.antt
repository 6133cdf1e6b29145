-- which elements lists have; crates above cite it
pub mod Members
-- a set has one ascending list; crates above cite `same_list`
pub mod Ascending
-- the orders of entries and pointers; crates above cite their totals
pub mod EntryOrders
-- the distinct elements of an array
pub mod Distinct
-- elements that are borrowed, sorted and without repeats
pub mod Borrowed
-- the entries of a value
pub mod Exact
-- the map of rows; crates above cite `same_map`
pub mod Mapped
-- how large the tuple of an entry is at most; crates above cite it
pub mod Room
-- definitions on entries that were worked out by hand
mod Worked
