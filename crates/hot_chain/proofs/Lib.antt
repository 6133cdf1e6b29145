-- Other crates cite `same_rows` and `row-at` of RootLaws, and `IsWithin` and `same_ascending` of Ascending. The rest
-- is this crate's own.

-- what follows from the definition of a chain
pub mod ChainLemmas
-- the walk along one chain, and the walks from the greatest start down
pub mod Walk
pub mod Fill
-- the rows, item by item
pub mod Rows
-- that each chain can be walked to its end
pub mod Existence
-- the laws
pub mod RootLaws
-- two ascending lists with the same elements
pub mod Ascending
