-- Reading order: from a page's end to the whole page.

-- the special space: its fields, and the flags
pub mod SpecialSpace
-- the meta page
pub mod Meta
-- a page of items, with its high key or without
pub mod Node
-- what holds of all these
pub mod Laws
