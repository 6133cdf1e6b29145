-- the table of types
pub mod Types
-- which values the columns of a type have
pub mod Values
-- which rows an index has
pub mod Filter
-- the order of values and rows, and clashes
pub mod Order
-- the columns that an index needs
pub mod Needed
-- which tables there are, and which indexes over them
pub mod Indexes
-- normalised keys
pub mod Norm
-- what the passes over bytes keep
pub mod Pass
-- what holds of all these
pub mod Laws
