-- What the pass over a page keeps.

-- the root offsets, as the starts are walked from the greatest down
pub mod RootOffsets
-- the rows, as the items are taken from the least up
pub mod Rows
