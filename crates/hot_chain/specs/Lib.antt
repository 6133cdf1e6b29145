-- Reading order: what a page's chains are, then what follows from that, then what the pass over a page keeps.

-- which item follows which, where a chain begins, and which items it has
pub mod Chain
-- the root of an item, the rows of a page, and what can be wrong with its chains
pub mod Roots
-- what follows from these definitions alone
pub mod Laws
-- what the pass over a page keeps
pub mod Pass
