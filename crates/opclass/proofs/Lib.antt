-- the laws of the order; crates above cite its totals
pub mod KeyOrder
-- how the needed columns follow
pub mod NeededColumns
-- bytes that show their end, and pieces
pub mod Pieces
-- what stays in front of bytes; crates above cite it
pub mod InFront
-- normalised keys; crates above cite `norms_show_end` and `norms_apart`
pub mod Norms
-- how bytes are turned, escaped and read
pub mod Bytes
pub mod Reading
pub mod Fronts
pub mod NormReading
-- the values of key types
pub mod KeyValues
